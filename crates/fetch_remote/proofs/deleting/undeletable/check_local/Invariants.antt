use Rattle.std.proofs.Common.{◌≡◌, drop}
use Rattle.std.specs.Prelude.{find}
use Rattle.fetch_remote.specs.Deleting.{is_foreign}
use Rattle.fetch_remote.proofs.deleting.undeletable.check_local.Given as goal

abbrev pub invariant-loop-name : goal.invariant-loop-name
invariant-loop-name l = find is_foreign (drop l.name-index l.names) ≡ find is_foreign l.names
