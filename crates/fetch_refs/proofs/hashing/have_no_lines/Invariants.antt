use Rattle.std.proofs.Common.{◌≡◌}
use Rattle.std.specs.BTreeMap.{IsOrdered}
use Rattle.fetch_refs.specs.Hashing.{is_empty}
use Rattle.fetch_refs.specs.Iter.{standing}
use Rattle.fetch_refs.specs.Names.{name_cmp}
use Rattle.fetch_refs.specs.Overlay.{shown_lines}
use Rattle.fetch_refs.specs.Slots.{each}
use Rattle.fetch_refs.proofs.hashing.have_no_lines.Given as goal

abbrev pub invariant-places : goal.invariant-places
invariant-places l = (is_empty (standing (each shown_lines l.entry-iterator)) ≡ is_empty (standing (each shown_lines l.logs.entries))) × IsOrdered name_cmp l.logs
