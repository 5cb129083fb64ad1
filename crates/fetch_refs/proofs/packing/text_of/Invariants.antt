use Rattle.std.proofs.Common.{◌≡◌, ◌++◌}
use Rattle.std.specs.BTreeMap.{IsOrdered}
use Rattle.std.specs.List.{flat_map}
use Rattle.fetch_refs.specs.Contents.{listed}
use Rattle.fetch_refs.specs.Iter.{standing}
use Rattle.fetch_refs.specs.Names.{name_cmp}
use Rattle.fetch_refs.specs.Packed.{packed_line}
use Rattle.fetch_refs.specs.Slots.{each}
use Rattle.fetch_refs.proofs.packing.text_of.Given as goal

abbrev pub invariant-names : goal.invariant-names
invariant-names l =
    (l.text.items ++ flat_map packed_line (standing (each (listed l.list) l.name-iterator)) ≡ flat_map packed_line (standing (each (listed l.list) l.names.entries))) × IsOrdered name_cmp l.names
