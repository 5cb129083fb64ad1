use Rattle.std.proofs.Common.{arith, sym, ap, ◌∙◌, ◌++◌, List, ℕ}
use Rattle.std.specs.List.{flat_map}
use Rattle.fetch_config.specs.Print.{text_if_of, text_of, section_text, is_of}
use Rattle.fetch_config.proofs.Flat.{emit-step, emit-end, flat_map-filter}
use Rattle.fetch_config.proofs.print.text_of.Goals as goal

pub loop-section-init : goal.loop-section-init
unfolding text_of
loop-section-init c =
    ap (λ (out : List ℕ). out ++ flat_map (text_if_of c.args.origin) c.args.sections.now) c.new-out.ensures.items ∙ sym (flat_map-filter section_text (is_of c.args.origin) c.args.sections.now)

pub loop-section-preserved : goal.loop-section-preserved
loop-section-preserved c =
    emit-step (text_if_of c.args.origin) c.args.sections.now c.loop-section.section-index c.section-item.result c.loop-section.out.items c.push_if_of.new.out.items _ c.loop-section-test.true c.section-item.is c.in_ok-push_if_of.ensures c.loop-section.invariant

pub returns : goal.returns
returns c = emit-end (text_if_of c.args.origin) c.args.sections.now c.loop-section.section-index c.loop-section.out.items _ (omega arith) c.loop-section.invariant
