use Rattle.std.proofs.Common.{◌≡◌, ◌++◌, take}
use Rattle.std.specs.List.{flat_map}
use Rattle.race_cli.specs.JournalLines.{gone_line}
use Rattle.race_cli.proofs.reporting.journal_lines.append_names.Given as goal

abbrev pub invariant-loop-name : goal.invariant-loop-name
invariant-loop-name l = l.out.items ≡ l.fn.out.items ++ flat_map gone_line (take l.name-index l.names)
