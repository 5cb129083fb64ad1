-- A fetch over a shared repository. "The state at `planned`" and "at `judged`" are those that this many entries leave of what
-- the pass has seen in the end.
use Rattle.std.specs.Prelude.{◌≡◌, ◌⊎◌, ℕ, false, List, [], Option, Some, None}
use Rattle.fetch_files.specs.Trees.{Tree}
use Rattle.fetch_update.specs.declared.worktrees.Worktree.{Worktree}
use Rattle.fetch_lines.specs.Talks.{Talks, IsFront}
use Rattle.fetch_lines.specs.Written.{lines_text}
use Rattle.fetch_conversation.specs.Conversation.{IsAwaited}
use Rattle.fetch_conversation.specs.declared.fetch.Error.TheVariants as receive
use Rattle.fetch_conversation.specs.declared.prepare.Error.TheVariants as prepare
use Rattle.fetch_remote.specs.Fetched.{HasHeard, HasRead, IsJudged, IsWritten, IsKept, HoldsMapped, listed_in}
use Rattle.fetch_remote.specs.Fetching.{apply_options_in, requests_in}
use Rattle.fetch_remote.specs.Form.{Given}
use Rattle.fetch_remote.specs.Negotiated.{AreHeld}
use Rattle.fetch_remote.specs.Refused.{HasEnded}
use Rattle.fetch_remote.specs.Remotes.{RemoteValue}
use Rattle.fetch_remote.specs.Repositories.{State}
use Rattle.fetch_remote.specs.RepositoryValues.{RepositoryValue}
use Rattle.fetch_remote.specs.Stages.{Told, bound_of, wants_in, conversation}
use Rattle.fetch_remote.specs.Conversed.{BreaksListing, BreaksReceiving}
use Rattle.fetch_remote.specs.declared.fetching.fetch_error.FetchError.{FetchError}
use Rattle.fetch_remote.specs.declared.fetching.fetch_error.FetchError.TheVariants as fetch
use Rattle.fetch_remote.specs.declared.fetching.options.FetchOptions.{FetchOptions}
use Rattle.fetch_remote.specs.declared.fetching.outcome.Outcome.{Outcome}
use Rattle.fetch_journal.specs.declared.entry.Entry.{Entry}
use Rattle.fetch_journal.specs.declared.error.SharedError.{SharedError}
use Rattle.fetch_journal.specs.declared.error.SharedError.TheVariants as errors
use Rattle.fetch_shared.specs.declared.receipt.Receipt.{Receipt}
use Rattle.fetch_journal.specs.Journals.{entries_of}
use Rattle.fetch_shared.specs.Passes.{Holder}
use Rattle.fetch_shared.specs.Seen.{IsStateAt}
use Rattle.fetch_shared.specs.Applying.{Matter, Course, IsApplied, IsUnapplied}
use Rattle.fetch_journal.specs.Shared.{SharedValue}
use Rattle.fetch_shared.specs.Conversed.{Line, given_to}

-- A call: what it is given, its pass before and after it, the list of work trees that is told, and the files before and
-- after it, where they tell a tree.
pub record Call : Type 0 where
  pub given : Given
  pub before : Holder
  pub after : Holder
  pub known : Option (List Worktree)
  pub files : Option Tree
  pub left : Option Tree

-- the call with this remote and these options, from a pass as it was to the pass as it came back
abbrev pub call_of : RemoteValue → FetchOptions → Holder → Holder → Option (List Worktree) → Option Tree → Option Tree → Call
call_of remote options before after known files left =
    record { given = given_to remote options before; before = before; after = after; known = known; files = files; left = left }

-- the pass's entries before
abbrev pub own : Call → List Entry
own c = entries_of c.before.number c.before.front

-- the course of what comes after a plan that saw this journal
abbrev pub course_in : Call → List Entry → Course
course_in c planned = record {
  opening = c.before.shared.opening;
  number = c.before.number;
  own = own c;
  planned = planned;
  front = c.after.front;
  known = c.known;
  files = c.files;
  left = c.left;
}

-- what is applied for what was told over the state that was planned
abbrev pub matter_in : Given → State → Told → Matter
matter_in g s told = record { setup = g.setup; options = apply_options_in g; wants = wants_in g s told.listed.ref_map; told = told }

-- the receipt of this pass, with these places
abbrev pub receipt_of : Holder → Option ℕ → Option ℕ → Option ℕ → Receipt
receipt_of p planned judged place = record { pass = p.number; planned = planned; judged = judged; place = place }

-- ---- done

-- The conversation was held to its end, over the state at `planned`: the peer heard the requests for what it said, and this
-- was told.
pub record HasConversed (line : Line) (c : Call) (planned : ℕ) (told : Told) : Type 0 where
  pub seen : SharedValue
  pub at : IsStateAt c.before.shared.opening c.before.front c.after.front planned seen
  pub said : List ℕ
  pub heard : HasHeard line.answers line.old line.new c.given seen.repository.state said
  pub ended : HasEnded c.given seen.repository.state said told

-- What the outcome tells is what was read, the rounds are those that were held, each mapping is judged by the policy over
-- the state at `judged`, which, but for a dry run, holds each id that is mapped, and the keep file stays where no edit stands.
pub record IsTold (line : Line) (c : Call) (planned judged : State) (trees : List Worktree) (said : List ℕ)
    (outcome : Outcome) : Type 0 where
  pub read : HasRead c.given planned said outcome
  pub rounds : AreHeld c.given planned (listed_in outcome) read.behind read.received
  pub verdicts : IsJudged c.given trees judged judged read.received outcome
  pub written : IsWritten c.given trees judged judged outcome verdicts.updates
  pub kept : IsKept c.given c.files c.left read.received verdicts.updates outcome
  pub held : c.given.options.dry_run ≡ false → HoldsMapped c.given outcome.ref_map judged.objects

-- A fetch over a shared repository that was done.
pub record IsSharedFetch (line : Line) (c : Call) (receipt : Receipt) (outcome : Outcome) : Type 0 where
  -- What was asked for by the plan was received,
  pub count : ℕ
  pub told : Told
  pub conversed : HasConversed line c count told
  -- taken, judged and committed,
  pub judged : ℕ
  pub place : Option ℕ
  pub applied : IsApplied (matter_in c.given conversed.seen.repository.state told) (course_in c conversed.seen.journal) judged place outcome
  -- and the outcome tells it.
  pub tells : IsTold line c conversed.seen.repository.state applied.by.taken.seen.repository.state applied.by.trees conversed.said outcome
  pub receipt_is : receipt ≡ receipt_of c.before (Some count) (Some judged) place

-- the repository that the verdicts saw
abbrev pub judged_in : {line : Line} {c : Call} {receipt : Receipt} {outcome : Outcome} → IsSharedFetch line c receipt outcome
    → RepositoryValue
judged_in h = h.applied.by.taken.seen.repository

-- ---- refused

-- The references couldn't be listed, or were refused: nothing is planned.
pub record IsUnlisted (line : Line) (c : Call) (receipt : Receipt) (e : FetchError) : Type 0 where
  pub receipt_is : receipt ≡ receipt_of c.before None None None
  pub none : entries_of c.before.number c.after.front ≡ own c
  pub files_same : c.left ≡ c.files
  pub broke : BreaksListing line.answers line.old line.new c.given e

-- The pack couldn't be had, or was refused, over the state at `planned`: nothing is entered.
pub record IsUnanswered (line : Line) (c : Call) (receipt : Receipt) (e : FetchError) : Type 0 where
  pub count : ℕ
  pub receipt_is : receipt ≡ receipt_of c.before (Some count) None None
  pub none : entries_of c.before.number c.after.front ≡ own c
  pub files_same : c.left ≡ c.files
  pub seen : SharedValue
  pub at : IsStateAt c.before.shared.opening c.before.front c.after.front count seen
  pub broke : BreaksReceiving line.answers line.old line.new c.given seen.repository.state e

-- It was refused after the conversation.
pub record IsStopped (line : Line) (c : Call) (receipt : Receipt) (e : SharedError) : Type 0 where
  pub count : ℕ
  pub told : Told
  pub conversed : HasConversed line c count told
  pub judged : Option ℕ
  pub place : Option ℕ
  pub receipt_is : receipt ≡ receipt_of c.before (Some count) judged place
  pub unapplied : IsUnapplied (matter_in c.given conversed.seen.repository.state told) (course_in c conversed.seen.journal) judged place e

-- The peer received a prefix of the requests for what it said, which a plan over this state asks with, and nothing was received
-- but while a reply was awaited.
pub record HasSpoken (line : Line) (g : Given) (s : State) : Type 0 where
  pub said : List ℕ
  pub heard : List ℕ
  pub passed : Talks line.answers line.old line.new heard said
  pub front : IsFront heard (lines_text (requests_in g s said))
  pub needed : IsAwaited (bound_of g) line.old line.new [] (conversation g s)

-- Where no plan was made, it is so of every state: what was sent lists the references.
abbrev pub HasSpokenAt : Line → Call → Option ℕ → Type 0
HasSpokenAt line c None = (s : State) → HasSpoken line c.given s
HasSpokenAt line c (Some count) = (v : SharedValue) × IsStateAt c.before.shared.opening c.before.front c.after.front count v
    × HasSpoken line c.given v.repository.state

-- Memory ran out before anything was received: nothing is entered.
pub record RanOut (line : Line) (c : Call) (receipt : Receipt) : Type 0 where
  pub planned : Option ℕ
  pub receipt_is : receipt ≡ receipt_of c.before planned None None
  pub none : entries_of c.before.number c.after.front ≡ own c
  pub files_same : c.left ≡ c.files
  pub spoke : HasSpokenAt line c planned

-- Why it was refused, and what that leaves. Out of memory and a link that is missing are told by themselves, and never
-- inside `Fetch`.
abbrev pub IsSharedRefused : Line → Call → Receipt → SharedError → Type 0
IsSharedRefused line c receipt (errors.Fetch (fetch.Prepare prepare.NoMemory)) = ⊥
IsSharedRefused line c receipt (errors.Fetch (fetch.Prepare cause)) = IsUnlisted line c receipt (fetch.Prepare cause)
IsSharedRefused line c receipt (errors.Fetch (fetch.Receive (receive.KeepFile path))) =
    IsStopped line c receipt (errors.Fetch (fetch.Receive (receive.KeepFile path)))
IsSharedRefused line c receipt (errors.Fetch (fetch.Receive (receive.UpdateRefs cause))) =
    IsStopped line c receipt (errors.Fetch (fetch.Receive (receive.UpdateRefs cause)))
IsSharedRefused line c receipt (errors.Fetch (fetch.Receive (receive.RemovePackKeepFile path))) =
    IsStopped line c receipt (errors.Fetch (fetch.Receive (receive.RemovePackKeepFile path)))
IsSharedRefused line c receipt (errors.Fetch (fetch.Receive (receive.Disconnected link))) = ⊥
IsSharedRefused line c receipt (errors.Fetch (fetch.Receive receive.NoMemory)) = ⊥
IsSharedRefused line c receipt (errors.Fetch (fetch.Receive cause)) = IsUnanswered line c receipt (fetch.Receive cause)
IsSharedRefused line c receipt (errors.Collision id) = IsStopped line c receipt (errors.Collision id)
IsSharedRefused line c receipt (errors.Disconnected link) = IsStopped line c receipt (errors.Disconnected link)
IsSharedRefused line c receipt (errors.EditReferences name found) = IsStopped line c receipt (errors.EditReferences name found)
IsSharedRefused line c receipt errors.NoMemory = RanOut line c receipt ⊎ IsStopped line c receipt errors.NoMemory
IsSharedRefused line c receipt e = ⊥
