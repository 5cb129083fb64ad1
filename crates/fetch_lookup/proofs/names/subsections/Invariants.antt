use Rattle.std.proofs.Common.{◌≡◌, drop}
use Rattle.std.specs.List.{flat_map}
use Rattle.fetch_lookup.specs.Names as spec
use Rattle.fetch_lookup.specs.Ordered.{ascending, placed}
use Rattle.fetch_lookup.proofs.names.subsections.Given as goal

abbrev pub invariant-loop-section : goal.invariant-loop-section
invariant-loop-section l = placed spec.text_cmp l.names.keys (flat_map (spec.subsection_in l.name) (drop l.section-index l.sections)) ≡ ascending spec.text_cmp (spec.subsections_of l.name l.sections)
