use Rattle.std.proofs.Common.{◌≡◌, ◌++◌, take}
use Rattle.std.specs.List.{flat_map}
use Rattle.race_cli.specs.JournalLines.{edit_line}
use Rattle.race_cli.proofs.reporting.journal_lines.append_edits.Given as goal

abbrev pub invariant-loop-edit : goal.invariant-loop-edit
invariant-loop-edit l = l.out.items ≡ l.fn.out.items ++ flat_map edit_line (take l.edit-index l.edits)
