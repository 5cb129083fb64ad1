use Rattle.std.proofs.Common.{◌≡◌}
use Rattle.std.specs.BTreeMap.{IsOrdered}
use Rattle.std.specs.List.{list_all}
use Rattle.fetch_refs.specs.Contents.{value_of}
use Rattle.fetch_refs.specs.Hashing.{leads}
use Rattle.fetch_refs.specs.Iter.{standing}
use Rattle.fetch_refs.specs.Names.{name_cmp}
use Rattle.fetch_refs.specs.Slots.{each}
use Rattle.fetch_refs.proofs.hashing.lead_to_names.Given as goal

abbrev pub invariant-places : goal.invariant-places
invariant-places l = (list_all leads (standing (each value_of l.entry-iterator)) ≡ list_all leads (standing (each value_of l.names.entries))) × IsOrdered name_cmp l.names
