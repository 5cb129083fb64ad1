use Rattle.std.proofs.Common.{◌≡◌, drop}
use Rattle.fetch_specs.specs.Matches.{added_all, ids_from}
use Rattle.fetch_specs.proofs.matching.add_ids.Given as goal

abbrev pub invariant-loop-i : goal.invariant-loop-i
invariant-loop-i l = record {
  pairs : l.found.pairs ≡ l.initial.found.pairs;
  added : added_all l.found.pairs l.found.matches (ids_from l.kind l.i (drop l.i l.specs)) ≡ added_all l.initial.found.pairs l.initial.found.matches (ids_from l.kind 0 l.specs);
}
