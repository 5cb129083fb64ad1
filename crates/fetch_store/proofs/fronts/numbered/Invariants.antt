use Rattle.std.proofs.Common.{◌≡◌, ℕ, ◌<◌, get_or, length}
use Rattle.fetch_store.specs.Fronts.{front}
use Rattle.fetch_objects.specs.Objects.{Stored}
use Rattle.fetch_base.specs.declared.id.ObjectId.{ObjectId}
use Rattle.fetch_store.proofs.fronts.numbered.Given as goal

abbrev pub invariant-loop-i : goal.invariant-loop-i
invariant-loop-i l = record {
  len : length l.places.items ≡ l.i;
  each : (k : ℕ) (d : ObjectId × Stored) (p : ℕ × ℕ) → k < l.i → get_or l.places.items k p ≡ (front (get_or l.objects k d).0, k);
}
