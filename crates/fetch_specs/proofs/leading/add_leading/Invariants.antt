use Rattle.std.proofs.Common.{◌≡◌, drop, map}
use Rattle.fetch_specs.specs.Matches.{added_all, leading}
use Rattle.fetch_specs.proofs.leading.add_leading.Given as goal

abbrev pub invariant-loop-k : goal.invariant-loop-k
invariant-loop-k l = record {
  pairs : l.found.pairs ≡ l.initial.found.pairs;
  added : added_all l.found.pairs l.found.matches (map (leading l.index l.item l.name) (drop l.k l.sources)) ≡ added_all l.initial.found.pairs l.initial.found.matches (map (leading l.index l.item l.name) l.sources);
}
