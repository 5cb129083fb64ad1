use Rattle.std.proofs.Common.{List, Err, sym}
use Rattle.std.proofs.lemmas.Result.{err_from_is_err_and}
use Rattle.fetch_update.specs.Policy.{Policy, policy_over}
use Rattle.fetch_update.specs.declared.worktrees.Worktree.{Worktree}
use Rattle.fetch_remote.proofs.Blamed.{trees_as}
use Rattle.fetch_remote.proofs.Judged.{told_free, told_refusal, policy_trees, judged_yes, at_slices}
use Rattle.fetch_remote.proofs.Applied.{list_of, list_told}
use Rattle.fetch_remote.proofs.fetching.judging.judge.Goals as goal

pub returns-in_err-trees-clause-judged : goal.returns-in_err-trees-clause-judged
returns-in_err-trees-clause-judged g c =
    let p = err_from_is_err_and c.from_residual.result c.from_residual.ensures.1 in
    let free = c.in_err-trees.ensures.refused in
    let known = g.W.Worktrees.told c.args.worktrees.now in
    rw (p.1, p.2) (record { trees = list_of known; listed_trees = list_told known; by = told_free _ c.in_err-trees.field-0.0 free })

pub returns-in_err-outcome-clause-judged : goal.returns-in_err-outcome-clause-judged
returns-in_err-outcome-clause-judged g c =
    let p = err_from_is_err_and c.from_residual-in_err-outcome.result c.from_residual-in_err-outcome.ensures.1 in
    let policy : List Worktree → Policy = λ trees. policy_over c.args.refs.now.names (g.O.Objects.graph c.args.objects.now) c.args.message.now c.args.tags c.args.dry_run trees in
    let h = at_slices policy c.args.ref_map.now c.in_ok-trees.trees.items _ _ _ _ (Err c.in_err-outcome.field-0.0) c.as_slice-4.ensures.value c.as_slice.ensures c.as_slice-2.ensures c.as_slice-3.ensures c.in_err-outcome.ensures in
    rw (p.1, p.2) (record { trees = c.in_ok-trees.trees.items; listed_trees = c.in_ok-trees.ensures.list; by = told_refusal (policy c.in_ok-trees.trees.items) c.args.ref_map.now c.in_err-outcome.field-0.0 h })

pub returns-in_err-outcome-clause-worktrees : goal.returns-in_err-outcome-clause-worktrees
returns-in_err-outcome-clause-worktrees g c =
    let p = err_from_is_err_and c.from_residual-in_err-outcome.result c.from_residual-in_err-outcome.ensures.1 in
    let policy : List Worktree → Policy = λ trees. policy_over c.args.refs.now.names (g.O.Objects.graph c.args.objects.now) c.args.message.now c.args.tags c.args.dry_run trees in
    let h = at_slices policy c.args.ref_map.now c.in_ok-trees.trees.items _ _ _ _ (Err c.in_err-outcome.field-0.0) c.as_slice-4.ensures.value c.as_slice.ensures c.as_slice-2.ensures c.as_slice-3.ensures c.in_err-outcome.ensures in
    rw (p.1, p.2) (trees_as _ _ _ _ (sym (policy_trees (policy c.in_ok-trees.trees.items) c.args.ref_map.now c.in_err-outcome.field-0.0 h)) c.in_ok-trees.ensures.worktrees)

pub returns-clause-judged : goal.returns-clause-judged
returns-clause-judged g c =
    let h = rw (c.as_slice.ensures, c.as_slice-2.ensures, c.as_slice-3.ensures, c.as_slice-4.ensures.value) at c.in_ok-outcome.ensures in
    record { trees = c.in_ok-trees.trees.items; listed_trees = c.in_ok-trees.ensures.list; by = judged_yes _ c.args.ref_map.now c.in_ok-outcome.outcome h }
