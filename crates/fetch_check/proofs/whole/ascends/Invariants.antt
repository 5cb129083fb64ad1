use Rattle.std.proofs.Common.{◌≡◌, ℕ, ◌+◌, ◌<◌, get_or}
use Rattle.std.specs.declared.cmp.Ordering.TheVariants.{Less}
use Rattle.fetch_base.specs.declared.id.ObjectId.{ObjectId}
use Rattle.fetch_objects.specs.Objects.{Stored}
use Rattle.fetch_base.specs.Id.{id_cmp}
use Rattle.fetch_check.proofs.whole.ascends.Given as goal

abbrev pub invariant-ids : goal.invariant-ids
invariant-ids l = (k : ℕ) (d : ObjectId × Stored) → k + 1 < l.place → id_cmp (get_or l.objects k d).0 (get_or l.objects (k + 1) d).0 ≡ Less
