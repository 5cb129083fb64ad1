use Rattle.std.proofs.Common.{◌≡◌, ◌++◌}
use Rattle.std.specs.BTreeMap.{IsOrdered}
use Rattle.fetch_refs.specs.Overlay.{shown_lines}
use Rattle.fetch_refs.specs.Iter.{standing}
use Rattle.fetch_refs.specs.Names.{name_cmp}
use Rattle.fetch_refs.specs.Slots.{each}
use Rattle.fetch_refs.proofs.copies.copy_logs.Given as goal

abbrev pub invariant-logs : goal.invariant-logs
invariant-logs l = (l.copy.entries ++ standing (each shown_lines l.name-iterator) ≡ standing (each shown_lines l.logs.entries)) × IsOrdered name_cmp l.logs
