use Rattle.std.proofs.Common.{◌≡◌, ℕ, ◌<◌, get_or, length}
use Rattle.fetch_base.specs.declared.id.ObjectId.{ObjectId}
use Rattle.fetch_objects.specs.Objects.{Stored}
use Rattle.fetch_pack.specs.Reading.{hashed}
use Rattle.fetch_pack.proofs.hashing.hash_each.Given as goal

abbrev pub invariant-loop-i : goal.invariant-loop-i
invariant-loop-i l = record {
  len : length l.ids ≡ length l.initial.ids;
  each : (j : ℕ) (d : ObjectId) (o : Stored) → j < l.i → get_or l.ids j d ≡ hashed l.kind (get_or l.objects j o);
}
