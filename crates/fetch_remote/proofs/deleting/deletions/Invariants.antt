use Rattle.std.proofs.Common.{◌≡◌, ◌++◌, drop, map}
use Rattle.fetch_remote.specs.DeletionSteps.{deletion}
use Rattle.fetch_remote.proofs.deleting.deletions.Given as goal

abbrev pub invariant-loop-name : goal.invariant-loop-name
invariant-loop-name l = l.edits.items ++ map deletion (drop l.name-index l.names) ≡ map deletion l.names
