use Rattle.std.proofs.Common.{arith, ap, ◌∙◌}
use Rattle.std.specs.Str.Parse.{digits_value}
use Rattle.std.proofs.lemmas.List.{take_all}
use Rattle.fetch_base.proofs.Decimals.{reads}
use Rattle.fetch_base.proofs.digits.value.Goals as goal

pub overflow_sub-c : goal.overflow_sub-c
overflow_sub-c c = (reads c.args.digits.now c.loop-c.c-index c.requires c.loop-c-test.true).digit

pub returns-in_default : goal.returns-in_default
returns-in_default c =
    let r = reads c.args.digits.now c.loop-c.c-index c.requires c.loop-c-test.true in
    λ fits. c.in_default.ensures (omega (arith, r.next, r.below, fits, c.loop-c.invariant))

pub returns-in_default-checked_add : goal.returns-in_default-checked_add
returns-in_default-checked_add c =
    let r = reads c.args.digits.now c.loop-c.c-index c.requires c.loop-c-test.true in
    λ fits. c.in_default-checked_add.ensures (omega (arith, r.next, r.below, fits, c.loop-c.invariant, c.in-Some.ensures.1, c.from-digit.ensures))

pub loop-c-preserved : goal.loop-c-preserved
loop-c-preserved c =
    let r = reads c.args.digits.now c.loop-c.c-index c.requires c.loop-c-test.true in
    (omega (arith, r.next, c.loop-c.invariant, c.in-Some.ensures.1, c.in-Some-checked_add.ensures.1, c.from-digit.ensures), omega (arith, c.in-Some-checked_add.ensures))

pub returns : goal.returns
returns c =
    let is = c.loop-c.invariant.0 ∙ ap (digits_value 10) (take_all c.loop-c.c-index c.args.digits.now (omega arith)) in
    (omega (arith, is, c.loop-c.invariant.1), is)
