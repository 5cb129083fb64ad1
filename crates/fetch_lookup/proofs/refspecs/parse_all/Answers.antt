use Rattle.std.proofs.Common.{arith}
use Rattle.std.proofs.lemmas.Result.{err_from_is_err_and}
use Rattle.fetch_specs.specs.Parses.{parsed}
use Rattle.fetch_lookup.specs.Results.{all_of}
use Rattle.fetch_lookup.specs.SpecOrder.{is_spec_memory}
use Rattle.fetch_lookup.proofs.Gathered.{gather-step, gather-refused, gather-end, where-fails}
use Rattle.fetch_lookup.proofs.refspecs.parse_all.Goals as goal

pub returns-in_err-parse_one : goal.returns-in_err-parse_one
returns-in_err-parse_one c =
    let p = err_from_is_err_and c.from_residual-in_err-parse_one.result c.from_residual-in_err-parse_one.ensures.1 in
    let f = parsed c.args.operation in
    rw (p.1, p.2) (where-fails (is_spec_memory c.in_err-parse_one.field-0.0)
    (λ gives. gather-refused f c.args.texts.now c.loop-text.text-index c.text-item.result c.loop-text.specs.items c.in_err-parse_one.field-0.0 (all_of f c.args.texts.now) c.loop-text-test.true c.text-item.is gives c.loop-text.invariant)
    c.in_err-parse_one.ensures)

pub loop-text-preserved : goal.loop-text-preserved
loop-text-preserved c =
    let f = parsed c.args.operation in
    gather-step f c.args.texts.now c.loop-text.text-index c.text-item.result c.loop-text.specs.items c.push.new.self.items c.in_ok-parse_one.field-0 (all_of f c.args.texts.now) c.loop-text-test.true c.text-item.is c.in_ok-parse_one.ensures c.in_ok-push.ensures.items c.loop-text.invariant

pub returns : goal.returns
returns c =
    let f = parsed c.args.operation in
    gather-end f c.args.texts.now c.loop-text.text-index c.loop-text.specs.items (all_of f c.args.texts.now) (omega arith) c.loop-text.invariant
