use Rattle.std.proofs.Common.{◌-◌, length, map}
use Rattle.fetch_check.specs.Bundles.{ref_line}
use Rattle.fetch_check.specs.Reading.{AreReferences}
use Rattle.fetch_check.specs.Scanning.{Stand}
use Rattle.fetch_check.proofs.header.read_references.Given as goal

abbrev pub invariant-references : goal.invariant-references
invariant-references l = record {
  stand : Stand l.bytes l.place (map ref_line l.found.items) l.next;
  may : AreReferences l.hash l.found.items;
}

abbrev pub decreases-references : goal.decreases-references
decreases-references l = length l.bytes - l.next
