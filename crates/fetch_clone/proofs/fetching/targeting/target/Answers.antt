use Rattle.std.proofs.Common.{sym, ◌∙◌}
use Rattle.fetch_clone.proofs.Blamed.{maker-still, stop-still}
use Rattle.fetch_clone.proofs.Targeting.{told-first, unasked, untold-first}
use Rattle.fetch_clone.proofs.fetching.targeting.target.Goals as goal

pub returns-then-lists_first-clause-target : goal.returns-then-lists_first-clause-target
returns-then-lists_first-clause-target g c = told-first _ _ _ _ _ c.args.draft.now c.args.repo.now c.target_of.result (sym c.lists_first.ensures ∙ c.if-lists_first.true) c.target_of.ensures.target

pub returns-then-lists_first-clause-refused : goal.returns-then-lists_first-clause-refused
returns-then-lists_first-clause-refused g c =
    untold-first _ (g.C.Connect.faults c.args.maker.now) (g.C.Connect.faults c.target_of.new.maker) _ _ c.args.draft.now c.args.repo.now c.target_of.result (sym c.lists_first.ensures ∙ c.if-lists_first.true) c.target_of.ensures.refused

pub returns-else-lists_first-clause-target : goal.returns-else-lists_first-clause-target
returns-else-lists_first-clause-target g c = unasked _ _ _ c.args.draft.now c.args.repo.now (sym c.lists_first.ensures ∙ c.if-lists_first.false)

pub returns-then-lists_first-clause-maker : goal.returns-then-lists_first-clause-maker
returns-then-lists_first-clause-maker g c = c.target_of.ensures.maker

pub returns-then-lists_first-clause-interrupt : goal.returns-then-lists_first-clause-interrupt
returns-then-lists_first-clause-interrupt g c = c.target_of.ensures.interrupt

pub returns-else-lists_first-clause-maker : goal.returns-else-lists_first-clause-maker
returns-else-lists_first-clause-maker g c = maker-still _ _ _ _

pub returns-else-lists_first-clause-interrupt : goal.returns-else-lists_first-clause-interrupt
returns-else-lists_first-clause-interrupt g c = stop-still _ _ _ _ _
