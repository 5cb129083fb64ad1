use Rattle.std.proofs.Common.{refl, inl, inr}
use Rattle.std.proofs.lemmas.Result.{err_from_is_err_and, IfErr-weaker, IfOk-weaker}
use Rattle.fetch_base.specs.Faults.{Counts-none}
use Rattle.fetch_clone.specs.Counted.{meters}
use Rattle.fetch_clone.proofs.Counted.{at-ok}
use Rattle.fetch_clone.proofs.StepsCounted.{counted-saved, named-counted}
use Rattle.fetch_clone.proofs.fetching.saving.save.Goals as goal

pub returns-in_err-name-clause-refused : goal.returns-in_err-name-clause-refused
returns-in_err-name-clause-refused g c =
    let p = err_from_is_err_and c.from_residual.result c.from_residual.ensures.1 in
    rw (p.1, p.2) (record { by = inl (c.in_err-name.ensures.refused, refl, refl) })

pub returns-in_err-name-clause-counted : goal.returns-in_err-name-clause-counted
returns-in_err-name-clause-counted g c trees =
    let p = err_from_is_err_and c.from_residual.result c.from_residual.ensures.1 in
    rw (p.1, p.2) (named-counted _ (meters (g.C.Connect.faults c.args.maker.now) (g.C.Connect.lost c.args.maker.now) (g.I.Interrupt.yes c.args.interrupt.now) (g.F.Files.faults c.args.files.now) trees) (meters (g.C.Connect.faults c.named.new.maker) (g.C.Connect.lost c.named.new.maker) (g.I.Interrupt.yes c.named.new.interrupt) (g.F.Files.faults c.args.files.now) trees) _ _ _ _ _ c.in_err-name.field-0.0 c.in_err-name.ensures.refused (λ h. c.in_err-name.ensures.maker.cause (rw h refl)) (λ h. c.in_err-name.ensures.interrupt.cause (rw h refl)))

pub returns-in_err-name-clause-later : goal.returns-in_err-name-clause-later
returns-in_err-name-clause-later g c trees = record { made = c.in_err-name.ensures.maker.counts; lost = c.in_err-name.ensures.maker.lost; yes = c.in_err-name.ensures.interrupt.counts; files = Counts-none _; listing = Counts-none _; open_repo = Counts-none _; follow_symref = Counts-none _ }

pub returns-clause-saved : goal.returns-clause-saved
returns-clause-saved g c =
    IfOk-weaker c.save_as.result _ _ (λ saved h. (record { name = c.in_ok-name.name; target = c.in_ok-name.target; named = c.in_ok-name.ensures.named.0; saved_as = h }, c.in_ok-name.ensures.named.1)) (rw c.as_ref.ensures.value at c.save_as.ensures.saved)

pub returns-clause-refused : goal.returns-clause-refused
returns-clause-refused g c =
    IfErr-weaker c.save_as.result _ _ (λ e h. record { by = inr (record { name = c.in_ok-name.name; target = c.in_ok-name.target; named = c.in_ok-name.ensures.named.0; why = h }) }) (rw c.as_ref.ensures.value at c.save_as.ensures.refused)

pub returns-clause-later : goal.returns-clause-later
returns-clause-later g c trees = record { made = c.in_ok-name.ensures.maker.counts; lost = c.in_ok-name.ensures.maker.lost; yes = c.in_ok-name.ensures.interrupt.counts; files = c.save_as.ensures.counts; listing = Counts-none _; open_repo = Counts-none _; follow_symref = Counts-none _ }

pub returns-clause-counted : goal.returns-clause-counted
returns-clause-counted g c trees =
    counted-saved _ _ (meters (g.C.Connect.faults c.args.maker.now) (g.C.Connect.lost c.args.maker.now) (g.I.Interrupt.yes c.args.interrupt.now) (g.F.Files.faults c.args.files.now) trees) (meters (g.C.Connect.faults c.named.new.maker) (g.C.Connect.lost c.named.new.maker) (g.I.Interrupt.yes c.named.new.interrupt) (g.F.Files.faults c.save_as.new.files) trees) _ _ _ _ _ _ _ c.save_as.result c.save_as.ensures.refused c.save_as.ensures.load c.save_as.ensures.io

pub returns-clause-uninterrupted : goal.returns-clause-uninterrupted
returns-clause-uninterrupted g c = at-ok c.save_as.result c.in_ok-name.ensures.interrupt.quiet

pub returns-clause-questions : goal.returns-clause-questions
returns-clause-questions g c = at-ok c.save_as.result c.in_ok-name.ensures.interrupt.noes

pub returns-in_err-name-clause-out : goal.returns-in_err-name-clause-out
returns-in_err-name-clause-out g c = c.in_err-name.ensures.maker.out_is

pub returns-clause-out : goal.returns-clause-out
returns-clause-out g c = c.in_ok-name.ensures.maker.out_is
