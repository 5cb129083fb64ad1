use Rattle.std.proofs.Common.{◌≡◌, ◌+◌, ◌≤◌, length}
use Rattle.fetch_config.specs.Lines.{sections_of, broken_line}
use Rattle.fetch_config.proofs.Gathering.{joined, told}
use Rattle.fetch_config.proofs.reading.read_sections.Given as goal

abbrev pub invariant-loop-rest : goal.invariant-loop-rest
invariant-loop-rest l = record {
  sections : joined l.meta l.sections.items l.rest ≡ sections_of l.meta l.text;
  broken : told l.number l.sections.items l.rest ≡ broken_line l.text;
  room : l.number + length l.rest ≤ length l.text;
}

abbrev pub decreases-loop-rest : goal.decreases-loop-rest
decreases-loop-rest l = length l.rest
