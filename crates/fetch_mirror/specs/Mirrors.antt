-- What a mirror of a server is.
use Rattle.std.specs.Prelude.{◌≡◌, ◌↔◌, ◌⊎◌, ℕ, ◌<◌, List, [], ◌∷◌, map, Some}
use Rattle.std.specs.FinMap as finmap
use Rattle.std.specs.FinSet as finset
use Rattle.std.specs.List.{Contains}
use Rattle.fetch_store.specs.Closed.{IsStored, Reached, holding}
use Rattle.fetch_base.specs.declared.id.ObjectId.{ObjectId}
use Rattle.fetch_refs.specs.declared.edit.RefEdit.{RefEdit}
use Rattle.fetch_refs.specs.declared.log.Signature.{Signature}
use Rattle.fetch_refs.specs.declared.target.Target.{Target}
use Rattle.fetch_refs.specs.declared.target.Target.TheVariants.{Object}
use Rattle.fetch_reach.specs.Named.{AreOwnIds}
use Rattle.fetch_remote.specs.RepositoryValues.{RepositoryValue}
use Rattle.fetch_serve.specs.Served.{Data}
use Rattle.fetch_journal.specs.Fronts.{IsSound}
use Rattle.fetch_journal.specs.Journals.{entries_of}
use Rattle.fetch_journal.specs.declared.entry.Entry.{Entry}
use Rattle.fetch_journal.specs.declared.entry.Entry.TheVariants.{Take, Commit}
use Rattle.fetch_mirror.specs.Born.{born_names, born_of}
use Rattle.fetch_mirror.specs.Shares.{dealt_to}

-- ---- the journal

-- A worker fetched these names: it took a pack without a change of the border, unless all was stored already, and then committed
-- an edit of each of the names, and of no other.
pub record HasTakenNames (worker : ℕ) (names : List (List ℕ)) (committer : Signature) (entries : List Entry) : Type 0 where
  pub edits : List RefEdit
  pub each : (name : List ℕ) → Contains names name ↔ Contains (map (λ e. e.name) edits) name
  pub is : (entries ≡ Commit worker edits committer ∷ [])
      ⊎ ((ids : List ObjectId) × (entries ≡ Take worker ids [] [] ∷ Commit worker edits committer ∷ []))

-- Each worker with a share of these names fetched it, and there is no other entry.
pub record IsJournal (workers : ℕ) (names : List (List ℕ)) (committer : Signature) (journal : List Entry) : Type 0 where
  pub each : (worker : ℕ) → worker < workers → (dealt_to workers worker names ≡ [] → ⊥)
      → HasTakenNames worker (dealt_to workers worker names) committer (entries_of worker journal)
  pub none : (worker : ℕ) → worker < workers → dealt_to workers worker names ≡ [] → entries_of worker journal ≡ []
  pub others : (worker : ℕ) → (worker < workers → ⊥) → entries_of worker journal ≡ []

-- ---- the mirror

-- a reference that is born, as a mirror has it
abbrev pub mirrored : List ℕ × ObjectId → List ℕ × Target
mirrored e = (e.0, Object e.1)

-- each reference of a server that is mirrored
abbrev pub mirrored_of : Data → List (List ℕ × Target)
mirrored_of d = map mirrored (born_of d)

-- the ids of these references
abbrev pub born_ids : Data → List ObjectId
born_ids d = map (λ e. e.1) (born_of d)

-- A mirror of a server, made by so many workers, with this journal.
pub record IsMirrored (d : Data) (workers : ℕ) (committer : Signature) (journal : List Entry) (r : RepositoryValue) : Type 0 where
  -- The references are those born under `refs/`, each as its id.
  pub names : (name : List ℕ) (target : Target)
      → (finmap.get r.state.refs.names name ≡ Some target) ↔ Contains (mirrored_of d) (name, target)
  -- What these reach is stored, and nothing else, without a border.
  pub ids : (id : ObjectId) → IsStored r.state.objects id ↔ Reached (holding d.objects finset.empty) (born_ids d) id
  pub border : r.state.border ≡ finset.empty
  -- Each object stands at its own id, as the server's do: they differ only where two texts have one id.
  pub own : AreOwnIds r.state.objects
  -- No link leads to what isn't stored, and each object is of the server's hash.
  pub sound : IsSound r
  pub hash : r.state.hash ≡ d.hash
  -- The workers entered one commit each, behind one take or none.
  pub journal_is : IsJournal workers (born_names d) committer journal
