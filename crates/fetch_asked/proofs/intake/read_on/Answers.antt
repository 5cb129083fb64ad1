use Rattle.std.proofs.Common.{sym, ap, subst, length, ◌∙◌, arith, length-drop}
use Rattle.fetch_asked.specs.Intakes.{StopsAt}
use Rattle.fetch_asked.proofs.Intakes as on
use Rattle.fetch_asked.proofs.intake.read_on.Goals as goal

pub returns-in-None-clause-goes : goal.returns-in-None-clause-goes
returns-in-None-clause-goes c =
    let i = c.lines.invariant in
    record {
      within = i.within;
      bounded = i.bounded;
      told = i.told;
      short = on.short c.args.hash c.args.bytes.now c.lines.place c.lines.reading c.in-Err.trouble i.bounded (rw c.rest_at.ensures at (sym c.in-Err.ensures.value)) (sym c.in-None.ensures);
    }

pub returns-in-Some-clause-stops : goal.returns-in-Some-clause-stops
returns-in-Some-clause-stops c = λ more.
    subst (λ f. StopsAt f c.in-Some.refusal) (c.lines.invariant.told more)
    (on.stopped c.args.hash c.args.bytes.now c.lines.place c.lines.reading c.in-Err.trouble c.in-Some.refusal (rw c.rest_at.ensures at (sym c.in-Err.ensures.value)) (sym c.in-Some.ensures) more)

pub returns-in-Whole-clause-goes : goal.returns-in-Whole-clause-goes
returns-in-Whole-clause-goes c =
    let i = c.lines.invariant in
    let at = (rw c.rest_at.ensures at (sym c.in-Ok.ensures.value)) in
    record { within = omega (arith, c.in-Ok.ensures.within, ap length c.rest_at.ensures, i.within, length-drop c.lines.place c.args.bytes.now); told = λ more. sym (i.told more) ∙ on.whole c.args.hash c.args.bytes.now c.lines.place c.in-Ok.found.1 c.lines.reading c.in-Whole.asked _ more at c.in-Ok.ensures.len (rw c.in-Whole.is at c.in_ok-next.ensures) }

pub returns-in-Broken-clause-stops : goal.returns-in-Broken-clause-stops
returns-in-Broken-clause-stops c = λ more.
    sym (c.lines.invariant.told more) ∙ on.broken c.args.hash c.args.bytes.now c.lines.place c.in-Ok.found.1 c.lines.reading _ more (rw c.rest_at.ensures at (sym c.in-Ok.ensures.value)) c.in-Ok.ensures.len (rw c.in-Broken.is at c.in_ok-next.ensures)

pub lines-preserved : goal.lines-preserved
lines-preserved c =
    let i = c.lines.invariant in
    let at = (rw c.rest_at.ensures at (sym c.in-Ok.ensures.value)) in
    record {
      within = omega (arith, c.in-Ok.ensures.within, ap length c.rest_at.ensures, i.within, length-drop c.lines.place c.args.bytes.now);
      bounded = on.bounded c.lines.place c.in-Ok.found.1 c.args.bytes.now _ at c.in-Ok.ensures.len;
      told = λ more. on.goes_on c.args.hash c.args.bytes.now c.lines.place c.in-Ok.found.1 c.lines.reading c.in-On.next _ more at c.in-Ok.ensures.len (rw c.in-On.is at c.in_ok-next.ensures) ∙ i.told more;
    }
