use Rattle.std.proofs.Common.{◌≡◌, ◌++◌}
use Rattle.std.specs.BTreeMap.{IsOrdered}
use Rattle.fetch_base.specs.Id.{id_cmp}
use Rattle.fetch_negotiate.proofs.commits.copy_table.Given as goal

abbrev pub invariant-ids : goal.invariant-ids
invariant-ids l = (l.copy.entries ++ l.id-iterator ≡ l.table.entries) × IsOrdered id_cmp l.table
