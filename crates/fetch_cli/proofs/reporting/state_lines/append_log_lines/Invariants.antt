use Rattle.std.proofs.Common.{◌≡◌, ◌++◌, take}
use Rattle.std.specs.List.{flat_map}
use Rattle.fetch_cli.specs.ReportLines.{log_line}
use Rattle.fetch_cli.proofs.reporting.state_lines.append_log_lines.Given as goal

abbrev pub invariant-loop-line : goal.invariant-loop-line
invariant-loop-line l = l.out.items ≡ l.fn.out.items ++ flat_map (log_line l.name) (take l.line-index l.lines)
