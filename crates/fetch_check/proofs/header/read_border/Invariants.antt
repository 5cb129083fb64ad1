use Rattle.std.proofs.Common.{◌-◌, length, map}
use Rattle.fetch_check.specs.Bundles.{border_line}
use Rattle.fetch_check.specs.Reading.{AreBorderIds}
use Rattle.fetch_check.specs.Scanning.{Stand}
use Rattle.fetch_check.proofs.header.read_border.Given as goal

abbrev pub invariant-border : goal.invariant-border
invariant-border l = record {
  stand : Stand l.bytes l.place (map border_line l.found.items) l.next;
  may : AreBorderIds l.hash l.found.items;
}

abbrev pub decreases-border : goal.decreases-border
decreases-border l = length l.bytes - l.next
