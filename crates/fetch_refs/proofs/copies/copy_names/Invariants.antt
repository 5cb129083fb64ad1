use Rattle.std.proofs.Common.{◌≡◌, ◌++◌}
use Rattle.std.specs.BTreeMap.{IsOrdered}
use Rattle.fetch_refs.specs.Contents.{held}
use Rattle.fetch_refs.specs.Iter.{standing}
use Rattle.fetch_refs.specs.Names.{name_cmp}
use Rattle.fetch_refs.specs.Slots.{each}
use Rattle.fetch_refs.proofs.copies.copy_names.Given as goal

abbrev pub invariant-names : goal.invariant-names
invariant-names l = (l.copy.entries ++ standing (each held l.name-iterator) ≡ standing (each held l.names.entries)) × IsOrdered name_cmp l.names
