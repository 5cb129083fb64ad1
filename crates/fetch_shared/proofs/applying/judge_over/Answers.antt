use Rattle.std.proofs.Common.{Err, refl, sym, inl, inr}
use Rattle.fetch_remote.proofs.Blamed.{files_as, trees_still, judging_keeps}
use Rattle.fetch_remote.proofs.Applied.{told_only}
use Rattle.fetch_shared.proofs.Judged.{unmade_only, unmade_trees, judging_only}
use Rattle.fetch_shared.proofs.applying.judge_over.Goals as goal

pub returns-in-Err-clause-stopped : goal.returns-in-Err-clause-stopped
returns-in-Err-clause-stopped g c = inl (record { unjudged = refl; unmade = c.in-Err.ensures.refused })

pub returns-in-Err-clause-only : goal.returns-in-Err-clause-only
returns-in-Err-clause-only g c = unmade_only _ _ _ c.in-Err.cause c.in-Err.ensures.refused

pub returns-in-Ok-answer-clause-verdicts : goal.returns-in-Ok-answer-clause-verdicts
returns-in-Ok-answer-clause-verdicts g c =
    let j = c.in-Ok-answer.ensures.judged in
    record { taken = rw (c.beside.ensures, c.in-Ok.ensures.kept) refl; count = refl; kept = c.in-Ok.ensures.made; trees = j.trees; listed_trees = j.listed_trees; by = j.by }

pub returns-clause-stopped : goal.returns-clause-stopped
returns-clause-stopped g c =
    let j = c.in-Err-answer.ensures.judged in
    inr (record { judged = refl; kept = c.in-Ok.ensures.made; trees = j.trees; listed_trees = j.listed_trees; by = j.by })

pub returns-clause-only : goal.returns-clause-only
returns-clause-only g c = judging_only c.in-Err-answer.cause (told_only _ _ _ (Err c.in-Err-answer.cause) c.in-Err-answer.ensures.judged)

-- ---- who is blamed

pub returns-in-Err-clause-worktrees : goal.returns-in-Err-clause-worktrees
returns-in-Err-clause-worktrees g c = trees_still _ _ (unmade_trees _ _ _ c.in-Err.cause c.in-Err.ensures.refused)

pub returns-clause-files : goal.returns-clause-files
returns-clause-files g c =
    files_as _ _ _ _ (sym (judging_keeps c.in-Err-answer.cause (told_only _ _ _ (Err c.in-Err-answer.cause) c.in-Err-answer.ensures.judged))) c.in-Ok.ensures.files
