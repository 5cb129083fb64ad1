use Rattle.std.proofs.Common.{ap, arith, List, ℕ}
use Rattle.std.specs.List.{flat_map}
use Rattle.fetch_lookup.specs.Names as spec
use Rattle.fetch_lookup.specs.Ordered.{placed}
use Rattle.fetch_lookup.proofs.Placing.{place-step, place-end}
use Rattle.fetch_lookup.proofs.names.subsections.Goals as goal

pub loop-section-init : goal.loop-section-init
loop-section-init c = ap (λ (keys : List (List ℕ)). placed spec.text_cmp keys (flat_map (spec.subsection_in c.args.name.now) c.args.sections.now)) c.new-names.ensures.empty

pub loop-section-preserved : goal.loop-section-preserved
loop-section-preserved c = place-step spec.text_cmp (spec.subsection_in c.args.name.now) c.args.sections.now c.loop-section.section-index c.section-item.result c.loop-section.names.keys c.add_subsection.new.names.keys _ c.loop-section-test.true c.section-item.is c.in_ok-add_subsection.ensures c.loop-section.invariant

pub returns : goal.returns
returns c = place-end spec.text_cmp (spec.subsection_in c.args.name.now) c.args.sections.now c.loop-section.section-index c.loop-section.names.keys _ (omega arith) c.loop-section.invariant
