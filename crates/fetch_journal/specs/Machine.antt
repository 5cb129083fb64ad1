-- A repository that several use: its events, which of them are allowed, and what they change.
use Rattle.std.specs.Prelude.{◌≡◌, ℕ, Bool, List, [], ◌∷◌, ◌++◌, map, find, Option, None, is_some, option_map, slice_get, if◌then◌else◌}
use Rattle.std.specs.FinMap as finmap
use Rattle.std.specs.Option.{option_or}
use Rattle.fetch_base.specs.declared.id.ObjectId.{ObjectId}
use Rattle.fetch_store.specs.Borders.{merged}
use Rattle.fetch_store.specs.Closed.{Holding, holding}
use Rattle.fetch_store.specs.Honest.{Pack, Request}
use Rattle.fetch_store.specs.Missing.{missing}
use Rattle.fetch_store.specs.Stores.{collision}
use Rattle.fetch_refs.specs.declared.edit.PackedRefs.TheVariants.{Never}
use Rattle.fetch_refs.specs.declared.edit.RefEdit.{RefEdit}
use Rattle.fetch_refs.specs.declared.log.Signature.{Signature}
use Rattle.fetch_refs.specs.Expectations.{fails}
use Rattle.fetch_refs.specs.Logs as refs
use Rattle.fetch_refs.specs.Names.{Names, RefsValue}
use Rattle.fetch_remote.specs.Repositories as repositories
use Rattle.fetch_remote.specs.RepositoryValues.{RepositoryValue}
use Rattle.fetch_journal.specs.declared.entry.Entry.{Entry}
use Rattle.fetch_journal.specs.declared.entry.Entry.TheVariants as entries
use Rattle.fetch_journal.specs.declared.error.SharedError.{SharedError}
use Rattle.fetch_journal.specs.declared.error.SharedError.TheVariants.{Collision, Disconnected, EditReferences}
use Rattle.fetch_journal.specs.Deletions.{without}

-- the objects with their border
abbrev pub held : RepositoryValue → Holding
held r = holding r.state.objects r.state.border

-- with the objects of a pack, and with its lines in the border
abbrev pub with_pack : RepositoryValue → Pack → RepositoryValue
with_pack r pack = record r { state = repositories.with_pack r.state pack.objects (merged r.state.border pack.shallow pack.unshallow) }

-- with these references
abbrev pub with_refs : RepositoryValue → RefsValue → RepositoryValue
with_refs r refs = record r { state = repositories.with_refs r.state refs }

-- the references and the reflogs that these edits leave
abbrev pub edited : Bool → RefsValue → List RefEdit → Signature → RefsValue
edited logging found edits committer = refs.after committer logging Never found edits

-- a repository, and what became of it so far
pub record State : Type 0 where
  pub repository : RepositoryValue
  pub journal : List Entry

-- a repository with an empty journal
abbrev pub start : RepositoryValue → State
start r = record { repository = r; journal = [] }

-- what may be done with a shared repository
pub data Event : Type 0 where
  Plan : Event
  Snapshot : Event
  Take : (pass : ℕ) (wants : List ObjectId) (pack : Pack) → Event
  Commit : (pass : ℕ) (edits : List RefEdit) (committer : Signature) → Event
  Delete : (pass : ℕ) (names : List (List ℕ)) → Event

-- what a plan over this state asks for, and what it says to be there
abbrev pub request : State → List ObjectId → List ObjectId → Request
request s wants haves = record { held = held s.repository; wants = wants; haves = haves }

-- an id that would have two objects, or else the first link that would be missing
abbrev pub take_refusal : Holding → List ObjectId → Pack → Option SharedError
take_refusal h wants pack = option_or (option_map Collision (collision h.objects pack.objects))
    (option_map Disconnected (slice_get (missing h wants pack) 0))

-- the first edit that doesn't find what it expects
abbrev pub commit_refusal : Names → List RefEdit → Option SharedError
commit_refusal names edits = option_map (λ e. EditReferences e.name (finmap.get names e.name)) (find (fails names) edits)

-- why an event isn't allowed
abbrev pub refusal : State → Event → Option SharedError
refusal s Plan = None
refusal s Snapshot = None
refusal s (Take pass wants pack) = take_refusal (held s.repository) wants pack
refusal s (Commit pass edits committer) = commit_refusal s.repository.state.refs.names edits
refusal s (Delete pass names) = None

-- The event isn't refused.
abbrev pub IsAllowed : State → Event → Type 0
IsAllowed s event = refusal s event ≡ None

-- the repository becomes this, and the journal has an entry more
abbrev pub entered : State → RepositoryValue → Entry → State
entered s r entry = record { repository = r; journal = s.journal ++ entry ∷ [] }

-- what an event does that is allowed
abbrev pub effect : State → Event → State
effect s Plan = s
effect s Snapshot = s
effect s (Take pass wants pack) = entered s (with_pack s.repository pack)
    (entries.Take pass (map (λ e. e.0) pack.objects) pack.shallow pack.unshallow)
effect s (Commit pass edits committer) =
    entered s (with_refs s.repository (edited s.repository.setup.logging s.repository.state.refs edits committer))
    (entries.Commit pass edits committer)
effect s (Delete pass names) = entered s (with_refs s.repository (without s.repository.state.refs names)) (entries.Delete pass names)

-- An event that isn't allowed changes nothing.
abbrev pub after : State → Event → State
after s event = if is_some (refusal s event) then s else effect s event

-- the state after these events
abbrev pub run : State → List Event → State
run s [] = s
run s (event ∷ events) = run (after s event) events
