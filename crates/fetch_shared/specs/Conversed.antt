-- The conversation of a fetch over a plan that was made in a turn.
use Rattle.std.specs.Prelude.{◌≡◌, ◌⊎◌, ℕ, Bool, List, [], Option, Some, None}
use Rattle.fetch_lines.specs.Talks.{Talk}
use Rattle.fetch_conversation.specs.Conversation.{Concludes}
use Rattle.fetch_conversation.specs.ListStage.{ListedValue, shown, pending_of}
use Rattle.fetch_remote.specs.Form.{Given}
use Rattle.fetch_remote.specs.Remotes.{RemoteValue}
use Rattle.fetch_remote.specs.Stages.{bound_of, wants_in, listing_stage}
use Rattle.fetch_remote.specs.Conversed.{HasTold, BreaksListing, BreaksReceiving}
use Rattle.fetch_remote.specs.declared.fetching.fetch_error.FetchError.{FetchError}
use Rattle.fetch_remote.specs.declared.fetching.options.FetchOptions.{FetchOptions}
use Rattle.fetch_journal.specs.declared.error.SharedError.{SharedError}
use Rattle.fetch_journal.specs.declared.error.SharedError.TheVariants as errors
use Rattle.fetch_journal.specs.declared.plan.Plan.{Plan}
use Rattle.fetch_shared.specs.declared.exchange.Exchange.{Exchange}
use Rattle.fetch_journal.specs.Errors.{fetching}
use Rattle.fetch_shared.specs.Passes.{Holder}
use Rattle.fetch_shared.specs.Seen.{IsStateAt}
use Rattle.fetch_journal.specs.Shared.{SharedValue}

-- what a fetch is given: the remote, the options, and the setup that the shared repository opened with
abbrev pub given_to : RemoteValue → FetchOptions → Holder → Given
given_to remote options p = record { remote = remote; options = options; setup = p.shared.opening.setup }

-- what a peer tells before a call and after it
pub record Line : Type 0 where
  pub answers : Bool
  pub old : Option Talk
  pub new : Option Talk

-- the same, of its parts
abbrev pub line_of : Bool → Option Talk → Option Talk → Line
line_of answers old new = record { answers = answers; old = old; new = new }

-- A turn told the plan of what stands, which the pass has seen whole.
pub record HasPlanned (before after : Holder) (plan_of : SharedValue → Plan) (plan : Plan) : Type 0 where
  pub seen : SharedValue
  pub at : IsStateAt before.shared.opening before.front after.front plan.place seen
  pub front : after.front ≡ seen.journal
  pub plan_is : plan ≡ plan_of seen

-- ---- a conversation that was held

-- It was held to its end, over the state that the plan saw, which asked for these wants.
pub record HasConversedOver (line : Line) (g : Given) (before after : Holder) (count : ℕ) (t : Exchange) : Type 0 where
  pub seen : SharedValue
  pub at : IsStateAt before.shared.opening before.front after.front count seen
  pub front : after.front ≡ seen.journal
  pub told : HasTold line.answers line.old line.new g seen.repository.state (shown t.listed) t.received (pending_of t.listed)
  pub wants : t.wants ≡ wants_in g seen.repository.state t.listed.ref_map

-- ---- one that broke off

-- The references couldn't be listed.
pub record BrokeListing (line : Line) (g : Given) (planned : Option ℕ) (e : SharedError) : Type 0 where
  pub unplanned : planned ≡ None
  pub cause : FetchError
  pub told : e ≡ fetching cause
  pub broke : BreaksListing line.answers line.old line.new g cause

-- They were listed, and memory ran out as the plan was made.
pub record BrokePlanning (line : Line) (g : Given) (planned : Option ℕ) (e : SharedError) : Type 0 where
  pub unplanned : planned ≡ None
  pub memory : e ≡ errors.NoMemory
  pub listed : ListedValue
  pub behind : List ℕ
  pub list : Concludes line.answers (bound_of g) line.old line.new [] (listing_stage g) listed behind

-- It broke off as the pack was asked for, by the plan.
pub record BrokeReceiving (line : Line) (g : Given) (before after : Holder) (planned : Option ℕ) (e : SharedError) : Type 0 where
  pub count : ℕ
  pub planned_is : planned ≡ Some count
  pub seen : SharedValue
  pub at : IsStateAt before.shared.opening before.front after.front count seen
  pub cause : FetchError
  pub told : e ≡ fetching cause
  pub broke : BreaksReceiving line.answers line.old line.new g seen.repository.state cause

-- the conversation broke off while listing, while planning, or while receiving
abbrev pub HasBroken : Line → Given → Holder → Holder → Option ℕ → SharedError → Type 0
HasBroken line g before after planned e = BrokeListing line g planned e
    ⊎ (BrokePlanning line g planned e ⊎ BrokeReceiving line g before after planned e)
