use Rattle.std.proofs.Common.{◌≡◌, drop}
use Rattle.std.specs.Prelude.{find}
use Rattle.fetch_update.specs.Trees.{is_checked_out}
use Rattle.fetch_remote.proofs.deleting.undeletable.check_in.Given as goal

abbrev pub invariant-loop-name : goal.invariant-loop-name
invariant-loop-name l = find (is_checked_out l.trees) (drop l.name-index l.names) ≡ find (is_checked_out l.trees) l.names
