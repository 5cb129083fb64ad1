use Rattle.std.proofs.Common.{List, ℕ, sym, ap, ◌∙◌}
use Rattle.std.specs.List.{slice_get}
use Rattle.fetch_objects.specs.Steps.{step_view}
use Rattle.fetch_objects.specs.Objects.{seconds_in}
use Rattle.fetch_objects.proofs.Readings.{part_shorter, parts_take, parts_skip, parts_end}
use Rattle.fetch_objects.proofs.object.ObjectRef.committed.Goals as goal

pub returns-in-Some-seconds_in : goal.returns-in-Some-seconds_in
returns-in-Some-seconds_in c =
    let found = parts_take seconds_in c.args.self.now.hash c.loop-step.expected c.loop-step.rest.now (step_view c.in-Some.step) c.in-Some-seconds_in.seconds (sym c.in-Some.ensures) c.in-Some-seconds_in.ensures in
    sym (ap (λ (xs : List ℕ). slice_get xs 0) found) ∙ c.loop-step.invariant

pub loop-step-smaller : goal.loop-step-smaller
loop-step-smaller c = part_shorter c.args.self.now.hash c.loop-step.expected c.loop-step.rest.now (step_view c.in-Some.step) (sym c.in-Some.ensures)

pub loop-step-preserved : goal.loop-step-preserved
loop-step-preserved c =
    let passed = parts_skip seconds_in c.args.self.now.hash c.loop-step.expected c.loop-step.rest.now (step_view c.in-Some.step) (sym c.in-Some.ensures) c.in_default-seconds_in.ensures in
    sym (ap (λ (xs : List ℕ). slice_get xs 0) passed) ∙ c.loop-step.invariant

pub returns : goal.returns
returns c = sym (ap (λ (xs : List ℕ). slice_get xs 0) (parts_end seconds_in c.args.self.now.hash c.loop-step.expected c.loop-step.rest.now (sym c.in_default.ensures))) ∙ c.loop-step.invariant
