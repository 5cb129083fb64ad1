use Rattle.std.proofs.Common.{ap, arith, length, ◌^◌, ◌-◌, ℕ, zero-add}
use Rattle.std.specs.Prelude.{min}
use Rattle.std.specs.List.{flat_map}
use Rattle.std.specs.Option.{option_map}
use Rattle.fetch_config.specs.Lookups.{values_in, values_of}
use Rattle.fetch_config.proofs.Flat.{count-step, count-end}
use Rattle.fetch_config.proofs.lookup.count.Goals as goal

pub loop-section-init : goal.loop-section-init
unfolding values_of
loop-section-init c = (ap (λ (n : ℕ). min n (2 ^ 64 - 1)) (zero-add (length (flat_map (values_in c.args.name.now (option_map (λ s. s.now) c.args.sub) c.args.key.now c.args.trusted_only) c.args.sections.now))), omega arith)

pub loop-section-preserved : goal.loop-section-preserved
loop-section-preserved c = (count-step (values_in c.args.name.now (option_map (λ s. s.now) c.args.sub) c.args.key.now c.args.trusted_only) c.args.sections.now c.loop-section.section-index c.section-item.result c.loop-section.count c.count_in-count.result _ c.loop-section-test.true c.section-item.is c.count_in-count.ensures c.loop-section.invariant.0, omega (arith, c.count_in-count.ensures))

pub returns : goal.returns
returns c = count-end (values_in c.args.name.now (option_map (λ s. s.now) c.args.sub) c.args.key.now c.args.trusted_only) c.args.sections.now c.loop-section.section-index c.loop-section.count _ (omega arith) c.loop-section.invariant.1 c.loop-section.invariant.0
