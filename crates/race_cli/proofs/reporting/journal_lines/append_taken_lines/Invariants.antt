use Rattle.std.proofs.Common.{◌≡◌, ◌++◌, take}
use Rattle.std.specs.List.{flat_map}
use Rattle.race_cli.specs.JournalLines.{taken_line}
use Rattle.race_cli.proofs.reporting.journal_lines.append_taken_lines.Given as goal

abbrev pub invariant-loop-id : goal.invariant-loop-id
invariant-loop-id l = l.out.items ≡ l.fn.out.items ++ flat_map (taken_line l.word) (take l.id-index l.ids)
