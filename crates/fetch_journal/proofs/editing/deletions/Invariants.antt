use Rattle.std.proofs.Common.{◌≡◌, map, take}
use Rattle.fetch_journal.specs.Deletions.{deletion}
use Rattle.fetch_journal.proofs.editing.deletions.Given as goal

abbrev pub invariant-loop-name : goal.invariant-loop-name
invariant-loop-name l = l.edits.items ≡ map deletion (take l.name-index l.names)
