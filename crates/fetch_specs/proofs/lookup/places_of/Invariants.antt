use Rattle.std.proofs.Common.{◌≡◌, ◌≤◌, ℕ, List, drop, map, length}
use Rattle.fetch_specs.specs.Exact.{place_in, place_from}
use Rattle.fetch_specs.proofs.lookup.places_of.Given as goal

abbrev pub invariant-loop-left : goal.invariant-loop-left
invariant-loop-left l = record {
  within : l.left ≤ length l.items;
  has : (text : List ℕ) → place_in l.places.entries text ≡ place_from l.left text (map (λ item. item.full_ref_name) (drop l.left l.items));
}

abbrev pub decreases-loop-left : goal.decreases-loop-left
decreases-loop-left l = l.left
