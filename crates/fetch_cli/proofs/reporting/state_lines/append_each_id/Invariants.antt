use Rattle.std.proofs.Common.{◌≡◌, ◌++◌, take}
use Rattle.std.specs.List.{flat_map}
use Rattle.fetch_cli.specs.ReportLines.{id_line}
use Rattle.fetch_cli.proofs.reporting.state_lines.append_each_id.Given as goal

abbrev pub invariant-loop-id : goal.invariant-loop-id
invariant-loop-id l = l.out.items ≡ l.fn.out.items ++ flat_map id_line (take l.id-index l.ids)
