use Rattle.std.proofs.Common.{ap, sym, ◌∙◌, arith}
use Rattle.fetch_lookup.specs.Saved as spec
use Rattle.fetch_lookup.proofs.SavedLoops.{one-found, none-found}
use Rattle.fetch_lookup.proofs.saving.last_own.Goals as goal

pub returns-then-is_own-clause-place : goal.returns-then-is_own-clause-place
returns-then-is_own-clause-place c =
    let p = spec.is_own c.args.file.now.meta c.args.name.now in
    let s = c.index-sections-left.result in
    sym (one-found p c.sections-sections.result.now c.sections.left s c.sections-test.true c.sections.invariant.within c.index-sections-left.is
    (ap (λ m. spec.is_own m c.args.name.now s) (sym c.meta.ensures) ∙ sym c.is_own.ensures ∙ c.if-is_own.true) c.sections.invariant.none)
    ∙ ap (spec.last_place p) c.sections.invariant.same

pub returns-clause-place : goal.returns-clause-place
returns-clause-place c =
    let p = spec.is_own c.args.file.now.meta c.args.name.now in
    sym (none-found p c.sections-sections.result.now c.sections.left (omega (arith, c.sections-test.false)) c.sections.invariant.none) ∙ ap (spec.last_place p) c.sections.invariant.same
