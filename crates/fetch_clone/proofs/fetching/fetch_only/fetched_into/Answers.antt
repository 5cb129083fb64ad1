use Rattle.std.proofs.Common.{inl, inr}
use Rattle.std.proofs.lemmas.Result.{err_from_is_err_and, IfErr-weaker, IfOk-weaker}
use Rattle.fetch_clone.specs.Counted.{meters, tree_meters}
use Rattle.fetch_clone.proofs.Counted.{counts-later, later-then}
use Rattle.fetch_clone.proofs.Heeded.{heeded-behind, says-at}
use Rattle.fetch_clone.proofs.Targeting.{heeds-ahead}
use Rattle.fetch_clone.proofs.fetching.fetch_only.fetched_into.Goals as goal

pub returns-in_err-saved-clause-refused : goal.returns-in_err-saved-clause-refused
returns-in_err-saved-clause-refused g c =
    let p = err_from_is_err_and c.from_residual.result c.from_residual.ensures.1 in
    rw (p.1, p.2) (record { by = inl c.in_err-saved.ensures.refused })

pub returns-clause-cloned : goal.returns-clause-cloned
returns-clause-cloned g c =
    IfOk-weaker c.completed.result _ _
    (λ outcome h. record { saved = c.in_ok-saved.saved; asked = c.save.new.repo; between = _; written = _; is_saved = c.in_ok-saved.ensures.saved.0; listing = record { heeds = heeds-ahead _ _ _ _ _ _ _ _ _ _ _ (says-at _ _ _ _ h.questions) c.in_ok-saved.ensures.saved.1.heeds }; completed = record { between = h.between; stood = h.stood; fetched = h.fetched; finished = h.finished; questions = heeded-behind _ _ _ _ _ c.in_ok-saved.ensures.questions h.questions } })
    c.completed.ensures.completed

pub returns-clause-refused : goal.returns-clause-refused
returns-clause-refused g c =
    let refused = rw c.save.ensures.may_fail at c.completed.ensures.refused in
    IfErr-weaker c.completed.result _ _
    (λ e h. record { by = inr (record { saved = c.in_ok-saved.saved; asked = c.save.new.repo; between = _; written = _; failed = g.C.Connect.faults c.save.new.maker; earlier = (c.save.ensures.later (tree_meters (g.W.Worktrees.listing c.args.worktrees.now) (g.W.Worktrees.open_repo c.args.worktrees.now) (g.W.Worktrees.follow_symref c.args.worktrees.now))).made; is_saved = c.in_ok-saved.ensures.saved.0; why = h }) })
    refused

pub returns-clause-blames : goal.returns-clause-blames
returns-clause-blames g c =
    record {
      counted = counts-later (meters (g.C.Connect.faults c.args.maker.now) (g.C.Connect.lost c.args.maker.now) (g.I.Interrupt.yes c.args.interrupt.now) (g.F.Files.faults c.args.files.now) (tree_meters (g.W.Worktrees.listing c.args.worktrees.now) (g.W.Worktrees.open_repo c.args.worktrees.now) (g.W.Worktrees.follow_symref c.args.worktrees.now))) (meters (g.C.Connect.faults c.save.new.maker) (g.C.Connect.lost c.save.new.maker) (g.I.Interrupt.yes c.save.new.interrupt) (g.F.Files.faults c.save.new.files) (tree_meters (g.W.Worktrees.listing c.args.worktrees.now) (g.W.Worktrees.open_repo c.args.worktrees.now) (g.W.Worktrees.follow_symref c.args.worktrees.now))) (meters (g.C.Connect.faults c.completed.new.maker) (g.C.Connect.lost c.completed.new.maker) (g.I.Interrupt.yes c.completed.new.interrupt) (g.F.Files.faults c.completed.new.files) (tree_meters (g.W.Worktrees.listing c.completed.new.worktrees) (g.W.Worktrees.open_repo c.completed.new.worktrees) (g.W.Worktrees.follow_symref c.completed.new.worktrees))) c.completed.result (c.save.ensures.later (tree_meters (g.W.Worktrees.listing c.args.worktrees.now) (g.W.Worktrees.open_repo c.args.worktrees.now) (g.W.Worktrees.follow_symref c.args.worktrees.now))) c.in_ok-saved.ensures.uninterrupted c.completed.ensures.blames.counted;
      later = later-then (meters (g.C.Connect.faults c.args.maker.now) (g.C.Connect.lost c.args.maker.now) (g.I.Interrupt.yes c.args.interrupt.now) (g.F.Files.faults c.args.files.now) (tree_meters (g.W.Worktrees.listing c.args.worktrees.now) (g.W.Worktrees.open_repo c.args.worktrees.now) (g.W.Worktrees.follow_symref c.args.worktrees.now))) (meters (g.C.Connect.faults c.save.new.maker) (g.C.Connect.lost c.save.new.maker) (g.I.Interrupt.yes c.save.new.interrupt) (g.F.Files.faults c.save.new.files) (tree_meters (g.W.Worktrees.listing c.args.worktrees.now) (g.W.Worktrees.open_repo c.args.worktrees.now) (g.W.Worktrees.follow_symref c.args.worktrees.now))) (meters (g.C.Connect.faults c.completed.new.maker) (g.C.Connect.lost c.completed.new.maker) (g.I.Interrupt.yes c.completed.new.interrupt) (g.F.Files.faults c.completed.new.files) (tree_meters (g.W.Worktrees.listing c.completed.new.worktrees) (g.W.Worktrees.open_repo c.completed.new.worktrees) (g.W.Worktrees.follow_symref c.completed.new.worktrees))) (c.save.ensures.later (tree_meters (g.W.Worktrees.listing c.args.worktrees.now) (g.W.Worktrees.open_repo c.args.worktrees.now) (g.W.Worktrees.follow_symref c.args.worktrees.now))) c.completed.ensures.blames.later;
    }

pub returns-in_err-saved-clause-blames : goal.returns-in_err-saved-clause-blames
returns-in_err-saved-clause-blames g c =
    let p = err_from_is_err_and c.from_residual.result c.from_residual.ensures.1 in
    rw (p.1, p.2) (record { counted = (c.in_err-saved.ensures.counted (tree_meters (g.W.Worktrees.listing c.args.worktrees.now) (g.W.Worktrees.open_repo c.args.worktrees.now) (g.W.Worktrees.follow_symref c.args.worktrees.now))); later = c.in_err-saved.ensures.later (tree_meters (g.W.Worktrees.listing c.args.worktrees.now) (g.W.Worktrees.open_repo c.args.worktrees.now) (g.W.Worktrees.follow_symref c.args.worktrees.now)) })
