use Rattle.std.proofs.Common.{◌≡◌, ◌+◌, ◌≤◌, drop, []}
use Rattle.std.specs.List.{slice_range}
use Rattle.fetch_specs.specs.Scans.{scan, last_part}
use Rattle.fetch_specs.proofs.grammar.name_trouble.Given as goal

abbrev pub invariant-loop-i : goal.invariant-loop-i
invariant-loop-i l = record {
  before : l.start ≤ l.i;
  scanned : l.i + scan l.star (slice_range l.text l.start l.i) (drop l.i l.text) ≡ scan l.star [] l.text;
  part : last_part (slice_range l.text l.start l.i) (drop l.i l.text) ≡ last_part [] l.text;
}
