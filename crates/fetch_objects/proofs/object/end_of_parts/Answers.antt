use Rattle.std.proofs.Common.{sym, ap, ◌∙◌, length, arith}
use Rattle.fetch_objects.specs.Steps.{step_view}
use Rattle.fetch_objects.specs.Objects.{Reading}
use Rattle.fetch_objects.proofs.Readings.{part_shorter, reading_step, reading_end}
use Rattle.fetch_objects.proofs.object.end_of_parts.Goals as goal

pub loop-step-smaller : goal.loop-step-smaller
loop-step-smaller c = part_shorter c.args.hash c.loop-step.expected c.loop-step.rest.now (step_view c.in-Some.step) (sym c.in-Some.ensures)

pub loop-step-preserved : goal.loop-step-preserved
loop-step-preserved c =
    let more = reading_step c.args.hash c.loop-step.expected c.loop-step.rest.now (step_view c.in-Some.step) (sym c.in-Some.ensures) in
    let shorter = part_shorter c.args.hash c.loop-step.expected c.loop-step.rest.now (step_view c.in-Some.step) (sym c.in-Some.ensures) in
    record {
      expected = sym (ap (λ (r : Reading). r.expected) more) ∙ c.loop-step.invariant.expected;
      rest = sym (ap (λ (r : Reading). r.rest) more) ∙ c.loop-step.invariant.rest;
      within = omega (arith, shorter, c.loop-step.invariant.within);
    }

pub returns-clause-expected : goal.returns-clause-expected
returns-clause-expected c =
    let over = reading_end c.args.hash c.loop-step.expected c.loop-step.rest.now (sym c.in_default.ensures) in
    sym (ap (λ (r : Reading). r.expected) over) ∙ c.loop-step.invariant.expected

pub returns-clause-left : goal.returns-clause-left
returns-clause-left c =
    let over = reading_end c.args.hash c.loop-step.expected c.loop-step.rest.now (sym c.in_default.ensures) in
    ap length (sym (ap (λ (r : Reading). r.rest) over) ∙ c.loop-step.invariant.rest)
