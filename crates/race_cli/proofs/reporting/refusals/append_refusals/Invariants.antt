use Rattle.std.proofs.Common.{◌≡◌, ◌++◌, drop}
use Rattle.race_cli.specs.RaceReports.{refused_lines}
use Rattle.race_cli.proofs.reporting.refusals.append_refusals.Given as goal

abbrev pub invariant-loop-index : goal.invariant-loop-index
invariant-loop-index l = l.out.items ++ refused_lines l.index (drop l.index l.answers) ≡ l.fn.out.items ++ refused_lines 0 l.answers
