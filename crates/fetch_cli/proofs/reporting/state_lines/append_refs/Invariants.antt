use Rattle.std.proofs.Common.{◌≡◌, ◌++◌, length}
use Rattle.std.specs.FinMap as map
use Rattle.std.specs.List.{flat_map}
use Rattle.fetch_refs.specs.Iter.{left}
use Rattle.fetch_cli.specs.ReportLines.{ref_line}
use Rattle.fetch_cli.proofs.reporting.state_lines.append_refs.Given as goal

abbrev pub invariant-entries : goal.invariant-entries
invariant-entries l = l.out.items ++ flat_map (λ e. ref_line e.0 e.1) (left l.entries) ≡ l.fn.out.items ++ flat_map (λ e. ref_line e.0 e.1) (map.entries l.refs.names)

abbrev pub decreases-entries : goal.decreases-entries
decreases-entries l = length (left l.entries)
