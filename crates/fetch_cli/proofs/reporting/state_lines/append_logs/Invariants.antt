use Rattle.std.proofs.Common.{◌≡◌, ◌++◌, length}
use Rattle.std.specs.FinMap as map
use Rattle.std.specs.List.{flat_map}
use Rattle.fetch_refs.specs.Iter.{left}
use Rattle.fetch_cli.specs.Report.{log_lines_at}
use Rattle.fetch_cli.proofs.reporting.state_lines.append_logs.Given as goal

abbrev pub invariant-entries : goal.invariant-entries
invariant-entries l = l.out.items ++ flat_map (λ e. log_lines_at l.refs.logs e.0) (left l.entries) ≡ l.fn.out.items ++ flat_map (λ e. log_lines_at l.refs.logs e.0) (map.entries l.refs.names)

abbrev pub decreases-entries : goal.decreases-entries
decreases-entries l = length (left l.entries)
