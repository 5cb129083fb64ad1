use Rattle.std.proofs.Common.{ap, arith, List, ◌++◌, ℕ}
use Rattle.std.specs.List.{flat_map}
use Rattle.std.specs.Option.{option_map}
use Rattle.fetch_config.specs.Lookups.{values_in, values_of, explicit}
use Rattle.fetch_config.proofs.Flat.{collect-step, collect-end}
use Rattle.fetch_config.proofs.lookup.collect.Goals as goal

pub loop-section-init : goal.loop-section-init
unfolding values_of
loop-section-init c = ap (λ (out : List (List ℕ)). out ++ explicit (flat_map (values_in c.args.name.now (option_map (λ s. s.now) c.args.sub) c.args.key.now c.args.trusted_only) c.args.sections.now)) c.new-values.ensures.items

pub loop-section-preserved : goal.loop-section-preserved
loop-section-preserved c = collect-step (values_in c.args.name.now (option_map (λ s. s.now) c.args.sub) c.args.key.now c.args.trusted_only) c.args.sections.now c.loop-section.section-index c.section-item.result c.loop-section.values.items c.collect_in.new.values.items _ c.loop-section-test.true c.section-item.is c.in_ok-collect_in.ensures c.loop-section.invariant

pub returns : goal.returns
returns c = collect-end (values_in c.args.name.now (option_map (λ s. s.now) c.args.sub) c.args.key.now c.args.trusted_only) c.args.sections.now c.loop-section.section-index c.loop-section.values.items _ (omega arith) c.loop-section.invariant
