use Rattle.std.proofs.Common.{◌≡◌, drop, map}
use Rattle.fetch_specs.specs.Matches.{added_all, names_from, name_matches}
use Rattle.fetch_specs.proofs.matching.add_names_of.Given as goal

abbrev pub invariant-loop-j : goal.invariant-loop-j
invariant-loop-j l = record {
  pairs : l.found.pairs ≡ l.initial.found.pairs;
  added : added_all l.found.pairs l.found.matches (names_from (name_matches l.names.specs.now l.index l.spec) l.j (map (λ item. item.full_ref_name) (drop l.j l.names.items.now))) ≡ added_all l.initial.found.pairs l.initial.found.matches (names_from (name_matches l.names.specs.now l.index l.spec) 0 (map (λ item. item.full_ref_name) l.names.items.now));
}
