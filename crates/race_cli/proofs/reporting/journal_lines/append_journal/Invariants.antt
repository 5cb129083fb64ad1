use Rattle.std.proofs.Common.{◌≡◌, ◌++◌, drop}
use Rattle.race_cli.specs.JournalLines.{journal_lines}
use Rattle.race_cli.proofs.reporting.journal_lines.append_journal.Given as goal

abbrev pub invariant-loop-place : goal.invariant-loop-place
invariant-loop-place l = l.out.items ++ journal_lines l.place (drop l.place l.journal) ≡ l.fn.out.items ++ journal_lines 0 l.journal
