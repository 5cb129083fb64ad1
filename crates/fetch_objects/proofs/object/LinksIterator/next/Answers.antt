use Rattle.std.proofs.Common.{sym, ap, ◌∙◌, length, arith}
use Rattle.fetch_objects.specs.Steps.{step_view}
use Rattle.fetch_objects.specs.References.{wanted_id}
use Rattle.fetch_objects.proofs.Readings.{part_shorter, parts_take, parts_skip, parts_end}
use Rattle.fetch_objects.proofs.object.LinksIterator.next.Goals as goal

pub returns-in-Some-wanted_in-clause-steps : goal.returns-in-Some-wanted_in-clause-steps
returns-in-Some-wanted_in-clause-steps c =
    let l = c.loop-step.self in
    sym c.loop-step.invariant ∙ parts_take (wanted_id l.wanted) l.hash l.expected l.rest.now (step_view c.in-Some.step) c.in-Some-wanted_in.id (sym c.in-Some.ensures) c.in-Some-wanted_in.ensures

pub returns-in-Some-wanted_in-clause-goes : goal.returns-in-Some-wanted_in-clause-goes
returns-in-Some-wanted_in-clause-goes c =
    let one_less = ap length (returns-in-Some-wanted_in-clause-steps c) in record { on = λ _. (tt, tt, omega (arith, one_less)); keeps = tt; rests = λ _. tt }

pub loop-step-smaller : goal.loop-step-smaller
loop-step-smaller c = part_shorter c.loop-step.self.hash c.loop-step.self.expected c.loop-step.self.rest.now (step_view c.in-Some.step) (sym c.in-Some.ensures)

pub loop-step-preserved : goal.loop-step-preserved
loop-step-preserved c =
    let l = c.loop-step.self in
    sym (parts_skip (wanted_id l.wanted) l.hash l.expected l.rest.now (step_view c.in-Some.step) (sym c.in-Some.ensures) c.in_default-wanted_in.ensures) ∙ c.loop-step.invariant

pub returns-clause-steps : goal.returns-clause-steps
returns-clause-steps c =
    let l = c.loop-step.self in
    let over = parts_end (wanted_id l.wanted) l.hash l.expected l.rest.now (sym c.in_default.ensures) in
    (sym c.loop-step.invariant ∙ over, over)
