use Rattle.std.proofs.Common.{◌≡◌, ◌++◌, take}
use Rattle.std.specs.List.{flat_map}
use Rattle.fetch_cli.specs.Report.{update_line}
use Rattle.fetch_cli.proofs.reporting.append_maps.Given as goal

abbrev pub invariant-loop-update : goal.invariant-loop-update
invariant-loop-update l = l.out.items ≡ l.fn.out.items ++ flat_map (update_line l.mappings) (take l.update-index l.updates)
