-- What may still refuse the mirror of a server where nothing is too long.
use Rattle.std.specs.Prelude.{◌≡◌, ℕ, ⊤, Some}
use Rattle.std.specs.FinMap as finmap
use Rattle.std.specs.FinSet as set
use Rattle.fetch_store.specs.Borders.{IdSet}
use Rattle.fetch_objects.specs.Objects.{Stored}
use Rattle.fetch_base.specs.declared.id.ObjectId.{ObjectId}
use Rattle.fetch_reach.specs.Named.{own_id}
use Rattle.fetch_serve.specs.Servable.{IsServable}
use Rattle.fetch_serve.specs.Served.{Data}
use Rattle.fetch_journal.specs.declared.error.SharedError.{SharedError}
use Rattle.fetch_journal.specs.declared.error.SharedError.TheVariants as shared
use Rattle.fetch_mirror.specs.declared.error.MirrorError.{MirrorError}
use Rattle.fetch_mirror.specs.declared.error.MirrorError.TheVariants as errors
use Rattle.fetch_mirror.specs.Limits.{AreWithin}
use Rattle.fetch_mirror.specs.Mirroring.{IsFew}

-- A repository that can be served, without a border, from one to eight workers, and nothing that is too long.
pub record CanBeMirrored (d : Data) (border : IdSet) (workers bound : ℕ) : Type 0 where
  pub servable : IsServable d
  pub whole : border ≡ set.empty
  pub few : IsFew workers
  pub within : AreWithin d workers bound

-- Another text than that of the server's object has its id too.
pub record HasTwin (d : Data) (id : ObjectId) : Type 0 where
  pub own : Stored
  pub stored : finmap.get d.objects id ≡ Some own
  pub other : Stored
  pub same : id ≡ own_id other
  pub differs : (other.kind ≡ own.kind) × (other.bytes ≡ own.bytes) → ⊥

-- an id of what was to be taken has two texts
abbrev pub HasCollided : Data → SharedError → Type 0
HasCollided d (shared.Collision id) = HasTwin d id
HasCollided d e = ⊥

-- What may still refuse it: memory that runs out, and an id with two texts.
abbrev pub MayBeRefused : Data → MirrorError → Type 0
MayBeRefused d (errors.Workers count) = ⊥
MayBeRefused d (errors.Server e) = ⊥
MayBeRefused d (errors.List e) = ⊥
MayBeRefused d (errors.Worker index e) = HasCollided d e
MayBeRefused d errors.NoMemory = ⊤
