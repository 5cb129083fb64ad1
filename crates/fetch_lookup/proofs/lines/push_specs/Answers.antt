use Rattle.std.proofs.Common.{arith}
use Rattle.fetch_specs.specs.Parses.{printed}
use Rattle.fetch_specs.specs.Specs.{Spec}
use Rattle.fetch_lookup.specs.Remotes.{spec_key}
use Rattle.fetch_lookup.specs.Saved.{KeyLine}
use Rattle.fetch_lookup.proofs.Edits.{push-step, push-end}
use Rattle.fetch_lookup.proofs.SavedLoops.{spec-line}
use Rattle.fetch_lookup.proofs.lines.push_specs.Goals as goal

pub loop-spec-preserved : goal.loop-spec-preserved
loop-spec-preserved c =
    let f : Spec → KeyLine = λ s. (spec_key c.args.direction, printed s) in
    push-step f c.args.specs.now c.loop-spec.spec-index c.spec-item.result c.loop-spec.lines.items _ _ c.loop-spec-test.true c.spec-item.is
    (spec-line c.loop-spec.lines.items _ _ _ (spec_key c.args.direction) (printed c.spec-item.result) c.in_ok-push.ensures c.spec_key.ensures c.in_ok-text_of.ensures) c.loop-spec.invariant

pub returns : goal.returns
returns c =
    let f : Spec → KeyLine = λ s. (spec_key c.args.direction, printed s) in
    push-end f c.args.specs.now c.loop-spec.spec-index c.loop-spec.lines.items _ (omega arith) c.loop-spec.invariant
