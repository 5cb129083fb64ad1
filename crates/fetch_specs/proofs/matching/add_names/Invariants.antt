use Rattle.std.proofs.Common.{◌≡◌, drop, map}
use Rattle.fetch_specs.specs.Exact.{HasPlaces}
use Rattle.fetch_specs.specs.Matches.{added_all, specs_from, name_matches}
use Rattle.fetch_specs.proofs.matching.add_names.Given as goal

abbrev pub invariant-loop-i : goal.invariant-loop-i
invariant-loop-i l = record {
  pairs : l.found.pairs ≡ l.initial.found.pairs;
  places : HasPlaces (map (λ item. item.full_ref_name) l.names.items.now) l.places;
  added : added_all l.found.pairs l.found.matches (specs_from (name_matches l.specs) l.i (drop l.i l.specs) (map (λ item. item.full_ref_name) l.items)) ≡ added_all l.initial.found.pairs l.initial.found.matches (specs_from (name_matches l.specs) 0 l.specs (map (λ item. item.full_ref_name) l.items));
}
