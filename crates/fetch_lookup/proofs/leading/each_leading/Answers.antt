use Rattle.std.proofs.Common.{arith}
use Rattle.std.proofs.lemmas.Result.{err_from_is_err_and}
use Rattle.fetch_lookup.specs.Results.{all_of}
use Rattle.fetch_lookup.specs.Upstreams.{is_memory, leading_in}
use Rattle.fetch_lookup.proofs.Gathered.{gather-step, gather-refused, gather-end, where-fails}
use Rattle.fetch_lookup.proofs.leading.each_leading.Goals as goal

pub returns-in_err-leads_from : goal.returns-in_err-leads_from
returns-in_err-leads_from c =
    let p = err_from_is_err_and c.from_residual.result c.from_residual.ensures.1 in
    let f = leading_in c.args.file.now.sections c.args.tracking.now in
    rw (p.1, p.2) (where-fails (is_memory c.in_err-leads_from.field-0.0)
    (λ gives. gather-refused f c.args.names.now c.loop-name.name-index c.name-item.result c.loop-name.found.items c.in_err-leads_from.field-0.0 (all_of f c.args.names.now) c.loop-name-test.true c.name-item.is gives c.loop-name.invariant)
    c.in_err-leads_from.ensures)

pub loop-name-preserved : goal.loop-name-preserved
loop-name-preserved c =
    let f = leading_in c.args.file.now.sections c.args.tracking.now in
    gather-step f c.args.names.now c.loop-name.name-index c.name-item.result c.loop-name.found.items c.add.new.found.items c.in_ok-leads_from.field-0 (all_of f c.args.names.now) c.loop-name-test.true c.name-item.is c.in_ok-leads_from.ensures c.in_ok-add.ensures c.loop-name.invariant

pub returns : goal.returns
returns c =
    let f = leading_in c.args.file.now.sections c.args.tracking.now in
    gather-end f c.args.names.now c.loop-name.name-index c.loop-name.found.items (all_of f c.args.names.now) (omega arith) c.loop-name.invariant
