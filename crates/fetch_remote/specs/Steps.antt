-- A fetch in steps: a remote with its peer, what is prepared over them, and what goes on from there.
use Rattle.std.specs.Prelude.{◌≡◌, ◌⊎◌, ℕ, Bool, true, false, List, [], ◌++◌, Option, None, Result, Ok, Err}
use Rattle.std.specs.Borrow.{Fml, RattleType, MutBor, Lends}
use mir.Syntax.{named}
use Rattle.fetch_base.specs.Faults.{Faults}
use Rattle.fetch_negotiate.specs.declared.algorithm.Shallow.TheVariants.{NoChange}
use Rattle.fetch_files.specs.Trees.{Tree}
use Rattle.fetch_update.specs.declared.worktrees.Worktree.{Worktree}
use Rattle.fetch_lines.specs.Talks.{Talk}
use Rattle.fetch_conversation.specs.Blame.{BlamesPeer, BlamesInterrupt}
use Rattle.fetch_conversation.specs.Conversation.{Concludes, Breaks}
use Rattle.fetch_conversation.specs.Errors.{is_free_listing, is_free_receiving, is_interrupted, is_transport, prepare_of, is_stopped}
use Rattle.fetch_conversation.specs.ListStage.{LsRefsValue, ListedValue, list_stage, ls_refs_stage, shown, pending_of}
use Rattle.fetch_conversation.specs.Receiving.{last_question}
use Rattle.fetch_conversation.specs.declared.conversing.Received.{Received}
use Rattle.fetch_conversation.specs.declared.fetch.Error.{Error as ReceiveError}
use Rattle.fetch_conversation.specs.declared.listing.Listed.{Listed}
use Rattle.fetch_conversation.specs.declared.prepare.Error.{Error as PrepareError}
use Rattle.fetch_conversation.specs.declared.prepare.Error.TheVariants as prepare
use Rattle.fetch_conversation.specs.declared.ref_map.Error.{Error as MapError}
use Rattle.fetch_conversation.specs.declared.ref_map.Error.TheVariants as ref_map
use Rattle.fetch_conversation.specs.declared.ref_map.Options.{Options}
use Rattle.fetch_remote.specs.Fetched.{listed_in, IsCarriedOut}
use Rattle.fetch_remote.specs.Fetching.{apply_options_in}
use Rattle.fetch_remote.specs.Form.{Given}
use Rattle.fetch_remote.specs.Negotiated.{AreHeld}
use Rattle.fetch_remote.specs.Remotes.{RemoteValue}
use Rattle.fetch_remote.specs.Repositories.{State, Setup}
use Rattle.fetch_remote.specs.Applying.{IsUnapplied}
use Rattle.fetch_remote.specs.Stages.{inquiry_of, bound_of, wants_in, pack_stage}
use Rattle.fetch_remote.specs.contracts.fetching.connection.Connection.{the_row}
use Rattle.fetch_remote.specs.declared.fetching.connection.Connection.{Connection}
use Rattle.fetch_remote.specs.declared.fetching.options.FetchOptions.{FetchOptions}
use Rattle.fetch_remote.specs.declared.fetching.outcome.Outcome.{Outcome}
use Rattle.fetch_remote.specs.declared.fetching.prepared.Prepared.{Prepared}
use Rattle.fetch_remote.specs.declared.fetching.preparing.Prepare.{Prepare}
use Rattle.fetch_remote.specs.declared.fetching.exchange.Exchange.{Exchange}

-- ---- a remote with its peer

-- the remote of a connection
abbrev pub remote_of : {P : Type 0} → Connection P → RemoteValue
remote_of c = c.remote.now

-- the peer that is lent to it
abbrev pub peer_of : {P : Type 0} → Connection P → MutBor P
peer_of c = c.peer

-- with the peer as it is left
abbrev pub with_peer : {P : Type 0} → Connection P → P → Connection P
with_peer c last = record c { peer = record (c.peer) { now = last } }

-- The connection's peer is lent: it ends as it is left after the reference.
abbrev pub LendsPeer : (P : RattleType) → MutBor (Connection P.Denot) → MutBor P.Denot → Fml
LendsPeer P c r = Lends (the_row (record { mir = named 0; lft = [] }) P) P c r (with_peer c.now)

-- ---- a fetch that is prepared

-- the remote, what was listed, and how the fetch is to be done
pub record PreparedValue : Type 0 where
  pub remote : RemoteValue
  pub listed : Listed
  pub options : FetchOptions

-- what was prepared
abbrev pub prepared_of : {P : Type 0} → Prepare P Prepared → PreparedValue
prepared_of p = record { remote = p.remote.now; listed = p.prepared.listed; options = p.prepared.options }

-- the peer that is lent to it
abbrev pub lent : {P : Type 0} → Prepare P Prepared → MutBor P
lent p = p.peer

-- what the fetch is given in a repository of this setup
abbrev pub given_by : PreparedValue → Setup → Given
given_by p setup = record { remote = p.remote; options = p.options; setup = setup }

-- what its references were asked for by
abbrev pub asked_by : PreparedValue → Setup → LsRefsValue
asked_by p setup = inquiry_of p.remote setup.settings p.options.map

-- no dry run, loose references, the usual message, and no change of depth
abbrev pub options_with : Options → FetchOptions
options_with map = record { map = map; dry_run = false; write_packed_refs_only = false; reflog_message = None; shallow = NoChange }

-- ---- the first stage

-- The references were listed, in a conversation that goes on with what was received and not read.
pub record HasListed (answers : Bool) (old now : Option Talk) (q : LsRefsValue) (l : Listed) : Type 0 where
  pub list : Concludes answers q.options.max_reply_bytes old now [] (list_stage q.options.max_reply_bytes q) (shown l) (pending_of l)

-- The listing broke off.
pub record BreaksOff (answers : Bool) (old now : Option Talk) (q : LsRefsValue) (e : PrepareError) : Type 0 where
  pub broke : Breaks is_free_listing is_interrupted answers q.options.max_reply_bytes old now [] (list_stage q.options.max_reply_bytes q) e

-- The listing broke off, with the peer left so. Peer and interrupt are blamed only where their counts rose.
pub record IsUnlisted {P : Type 0} (told : P → Option Talk) (faults : P → Faults) (answers : Bool) (yes yes' : Faults)
    (will will' : ℕ → Type 0) (q : LsRefsValue) (before last : P) (e : PrepareError) : Type 0 where
  pub off : BreaksOff answers (told before) (told last) q e
  pub peer : BlamesPeer (faults before) (faults last) (is_transport e)
  pub interrupt : BlamesInterrupt yes yes' will will' (told before) (told last) (last_question {T = Listed} is_interrupted (Err e))

-- ---- the first stage by itself

-- The references were listed, whether or not a refspec was named. What was received after that is let go.
pub record HasInquired (answers : Bool) (old now : Option Talk) (q : LsRefsValue) (l : ListedValue) : Type 0 where
  pub behind : List ℕ
  pub list : Concludes answers q.options.max_reply_bytes old now [] (ls_refs_stage q.options.max_reply_bytes q) l behind

-- that no refspec is named, which this stage doesn't test
abbrev pub is_missing : PrepareError → Bool
is_missing prepare.MissingRefSpecs = true
is_missing (prepare.RefMap e) = false
is_missing prepare.NoMemory = false

-- why the references weren't listed
abbrev pub listing_error : PrepareError → MapError
listing_error prepare.MissingRefSpecs = ref_map.NoMemory
listing_error (prepare.RefMap e) = e
listing_error prepare.NoMemory = ref_map.NoMemory

-- The listing broke off.
pub record IsUninquired (answers : Bool) (old now : Option Talk) (q : LsRefsValue) (e : MapError) : Type 0 where
  pub broke : Breaks is_free_listing is_interrupted answers q.options.max_reply_bytes old now [] (ls_refs_stage q.options.max_reply_bytes q)
      (prepare_of e)

-- ---- the second stage

-- It was held to its end, with these wants asked for; what was listed stays.
pub record HasReceived (answers : Bool) (mid new : Option Talk) (g : Given) (s : State) (listed : Listed) (t : Exchange) : Type 0 where
  pub kept : shown t.listed ≡ shown listed
  pub wants : t.wants ≡ wants_in g s listed.ref_map
  pub pack : Concludes answers (bound_of g) mid new (pending_of listed) (pack_stage g s (shown listed)) t.received (pending_of t.listed)

-- What was received after the listing, or where that broke off.
abbrev pub NegotiatesAndReceivesBy : Bool → Option Talk → Option Talk → Given → State → Listed → Result Exchange ReceiveError → Type 0
NegotiatesAndReceivesBy answers mid new g s listed (Ok t) = HasReceived answers mid new g s listed t
NegotiatesAndReceivesBy answers mid new g s listed (Err e) =
    Breaks is_free_receiving is_stopped answers (bound_of g) mid new (pending_of listed) (pack_stage g s (shown listed)) e

-- What the call leaves that holds the second stage, once this was listed.
pub record NegotiatesAndReceives (answers : Bool) (mid new : Option Talk) (g : Given) (s : State) (listed : Listed)
    (result : Result Exchange ReceiveError) : Type 0 where
  pub held : NegotiatesAndReceivesBy answers mid new g s listed result

-- What a call leaves that goes on with what was listed. In it the peer heard the fetch requests for what it said, and no
-- more, whatever comes after, and the reply is read in that; the rest is as in the whole fetch.
pub record IsReceived (answers : Bool) (mid new : Option Talk) (known : Option (List Worktree)) (files files_left : Option Tree) (g : Given)
    (before after : State) (listed : Listed) (outcome : Outcome) : Type 0 where
  pub shows : listed_in outcome ≡ shown listed
  pub received : Option Received
  pub rest : List ℕ
  pub pack : Concludes answers (bound_of g) mid new (pending_of listed) (pack_stage g before (shown listed)) received rest
  pub rounds : AreHeld g before (shown listed) (pending_of listed ++ pack.said) received
  pub carried : IsCarriedOut known files files_left g before after received outcome

-- A call that goes on with what was listed broke off in its conversation: all is as found.
pub record IsCutOff (answers : Bool) (mid new : Option Talk) (files files_left : Option Tree) (g : Given) (before after : State)
    (listed : Listed) (e : ReceiveError) : Type 0 where
  pub broke : Breaks is_free_receiving is_stopped answers (bound_of g) mid new (pending_of listed) (pack_stage g before (shown listed)) e
  pub same_state : after ≡ before
  pub same_files : files_left ≡ files

-- It held its conversation to the end, and what was received was refused after it.
pub record IsTurnedDown (answers : Bool) (mid new : Option Talk) (known : Option (List Worktree)) (files files_left : Option Tree)
    (g : Given) (before after : State) (listed : Listed) (e : ReceiveError) : Type 0 where
  pub received : Option Received
  pub rest : List ℕ
  pub pack : Concludes answers (bound_of g) mid new (pending_of listed) (pack_stage g before (shown listed)) received rest
  pub unapplied : IsUnapplied known files files_left g.setup (apply_options_in g) before (wants_in g before listed.ref_map)
      (shown listed) received after e

-- Why a call that goes on with what was listed was refused, and what it leaves.
abbrev pub IsUnreceived : Bool → Option Talk → Option Talk → Option (List Worktree) → Option Tree → Option Tree → Given → State → State
    → Listed → ReceiveError → Type 0
IsUnreceived answers mid new known files files_left g before after listed e =
    IsCutOff answers mid new files files_left g before after listed e
    ⊎ IsTurnedDown answers mid new known files files_left g before after listed e

-- What a call leaves that goes on with what was listed, or why it was refused.
abbrev pub ReceivesBy : Bool → Option Talk → Option Talk → Option (List Worktree) → Option Tree → Option Tree → Given → State → State
    → Listed → Result Outcome ReceiveError → Type 0
ReceivesBy answers mid new known files files_left g before after listed (Ok outcome) =
    IsReceived answers mid new known files files_left g before after listed outcome
ReceivesBy answers mid new known files files_left g before after listed (Err e) =
    IsUnreceived answers mid new known files files_left g before after listed e
