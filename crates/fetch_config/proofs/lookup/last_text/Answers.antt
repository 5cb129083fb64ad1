use Rattle.std.proofs.Common.{refl, arith}
use Rattle.std.specs.Option.{option_map}
use Rattle.fetch_config.specs.Lookups.{values_in, values_of}
use Rattle.fetch_config.proofs.Flat.{text-step, text-end}
use Rattle.fetch_config.proofs.lookup.last_text.Goals as goal

pub loop-section-init : goal.loop-section-init
unfolding values_of
loop-section-init c = refl

pub loop-section-preserved : goal.loop-section-preserved
loop-section-preserved c = text-step (values_in c.args.name.now (option_map (λ s. s.now) c.args.sub) c.args.key.now c.args.trusted_only) c.args.sections.now c.loop-section.section-index c.section-item.result (option_map (λ v. v.now) c.loop-section.last) (option_map (λ v. v.now) c.last_text_in-last.result) _ c.loop-section-test.true c.section-item.is c.last_text_in-last.ensures c.loop-section.invariant

pub returns : goal.returns
returns c = text-end (values_in c.args.name.now (option_map (λ s. s.now) c.args.sub) c.args.key.now c.args.trusted_only) c.args.sections.now c.loop-section.section-index (option_map (λ v. v.now) c.loop-section.last) _ (omega arith) c.loop-section.invariant
