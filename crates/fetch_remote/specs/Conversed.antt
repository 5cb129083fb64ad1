-- How the conversation of a fetch ended, or where it broke off.
use Rattle.std.specs.Prelude.{◌≡◌, ℕ, Bool, List, [], Option}
use Rattle.fetch_lines.specs.Talks.{Talk}
use Rattle.fetch_conversation.specs.Conversation.{Concludes, Breaks}
use Rattle.fetch_conversation.specs.Errors.{is_free_listing, is_free_receiving, is_interrupted, is_stopped}
use Rattle.fetch_conversation.specs.ListStage.{ListedValue, shown, pending_of}
use Rattle.fetch_conversation.specs.declared.conversing.Received.{Received}
use Rattle.fetch_conversation.specs.declared.fetch.Error.{Error as ReceiveError}
use Rattle.fetch_conversation.specs.declared.prepare.Error.{Error as PrepareError}
use Rattle.fetch_remote.specs.Errors.{preparing, receiving}
use Rattle.fetch_remote.specs.Form.{Given}
use Rattle.fetch_remote.specs.Repositories.{State}
use Rattle.fetch_remote.specs.Stages.{bound_of, wants_in, listing_stage, pack_stage}
use Rattle.fetch_remote.specs.declared.fetching.fetch_error.FetchError.{FetchError}
use Rattle.fetch_remote.specs.declared.fetching.exchange.Exchange.{Exchange}

-- Both stages came to their ends, one after the other; after is what was received and not read after the first.
pub record HasTold (answers : Bool) (old new : Option Talk) (g : Given) (s : State) (listed : ListedValue) (received : Option Received)
    (rest : List ℕ) : Type 0 where
  pub between : Option Talk
  pub behind : List ℕ
  pub list : Concludes answers (bound_of g) old between [] (listing_stage g) listed behind
  pub pack : Concludes answers (bound_of g) between new behind (pack_stage g s listed) received rest

-- The listing broke off.
pub record BreaksListing (answers : Bool) (old new : Option Talk) (g : Given) (e : FetchError) : Type 0 where
  pub cause : PrepareError
  pub told : e ≡ preparing cause
  pub broke : Breaks is_free_listing is_interrupted answers (bound_of g) old new [] (listing_stage g) cause

-- The references were listed, and then it broke off.
pub record BreaksReceiving (answers : Bool) (old new : Option Talk) (g : Given) (s : State) (e : FetchError) : Type 0 where
  pub between : Option Talk
  pub behind : List ℕ
  pub listed : ListedValue
  pub list : Concludes answers (bound_of g) old between [] (listing_stage g) listed behind
  pub cause : ReceiveError
  pub told : e ≡ receiving cause
  pub broke : Breaks is_free_receiving is_stopped answers (bound_of g) between new behind (pack_stage g s listed) cause

-- It came to its end, with these wants asked for.
pub record HasEnded (answers : Bool) (old new : Option Talk) (g : Given) (s : State) (t : Exchange) : Type 0 where
  pub told : HasTold answers old new g s (shown t.listed) t.received (pending_of t.listed)
  pub wants : t.wants ≡ wants_in g s t.listed.ref_map
