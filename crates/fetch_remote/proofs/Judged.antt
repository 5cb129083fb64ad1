-- What judging answers, over a list of worktrees.
use Rattle.std.proofs.Common.{◌≡◌, true, false, List, None, Result, Ok, Err, refl, sym, subst, ◌∙◌}
use Rattle.std.proofs.lemmas.Bool.{OnFalse_from}
use Rattle.fetch_base.specs.Answers.{AnswersUnless}
use Rattle.fetch_specs.specs.Specs.{Spec}
use Rattle.fetch_map.specs.declared.mapping.Mapping.{Mapping}
use Rattle.fetch_map.specs.declared.mapping.RefMap.{RefMap}
use Rattle.fetch_update.specs.Outcomes.{outcome_of}
use Rattle.fetch_update.specs.Policy.{Policy, is_memory}
use Rattle.fetch_update.specs.Refusing.{Refuses}
use Rattle.fetch_update.specs.declared.update.Error.{Error as UpdateError}
use Rattle.fetch_update.specs.declared.update.Error.TheVariants as update
use Rattle.fetch_update.specs.declared.update.Outcome.{Outcome}
use Rattle.fetch_update.specs.declared.worktrees.Worktree.{Worktree}
use Rattle.fetch_update.proofs.Refused.{refused_with}
use Rattle.fetch_conversation.specs.Errors.{fetch_of_update, is_worktree_fault}
use Rattle.fetch_conversation.specs.declared.fetch.Error.{Error}
use Rattle.fetch_remote.specs.Blame.{fault_in}
use Rattle.fetch_remote.specs.Judging.{judged_of, is_free_judging}

refuses_no_fault : (p : Policy) (m : Mapping) (e : UpdateError) → Refuses p m e → is_worktree_fault e ≡ false
refuses_no_fault p m (update.FindReference name) h = refl
refuses_no_fault p m (update.InvalidRefName name) h = refl
refuses_no_fault p m (update.FindCommit id) h = refl
refuses_no_fault p m (update.PeelToId name cause) h = refl
refuses_no_fault p m update.WorktreeListing h = absurd h
refuses_no_fault p m update.OpenWorktreeRepo h = absurd h
refuses_no_fault p m update.FollowSymref h = absurd h
refuses_no_fault p m update.NoMemory h = refl

-- the policy answers no fault of the worktrees
pub no_fault : (p : Policy) (specs extra : List Spec) (ms : List Mapping) (e : UpdateError) → outcome_of p specs extra ms ≡ Err e → is_worktree_fault e ≡ false
no_fault p specs extra ms e is = let r = refused_with p specs extra ms e is in refuses_no_fault p r.mapping e r.refuses

judged_err : (p : Policy) (m : RefMap) (e : UpdateError) → outcome_of p m.refspecs m.extra_refspecs m.mappings ≡ Err e → judged_of p m ≡ Err (fetch_of_update e)
unfolding judged_of
judged_err p m e is = rw is refl

pub judged_yes : (p : Policy) (m : RefMap) (o : Outcome) → outcome_of p m.refspecs m.extra_refspecs m.mappings ≡ Ok o → judged_of p m ≡ Ok o
unfolding judged_of
judged_yes p m o is = rw is refl

-- a free refusal may come whatever is expected
pub told_free : (expected : Result Outcome Error) (e : Error) → is_free_judging e ≡ true → AnswersUnless {A = Outcome} is_free_judging expected (Err e)
told_free expected e free = OnFalse_from (is_free_judging e) (expected ≡ Err e) (λ sure. let k : true ≡ false = sym free ∙ sure in absurd cc)

-- a refusal of the policy is told as it is
pub told_refusal : (p : Policy) (m : RefMap) (e : UpdateError) → AnswersUnless {A = Outcome} is_memory (outcome_of p m.refspecs m.extra_refspecs m.mappings) (Err e) → AnswersUnless {A = Outcome} is_free_judging (judged_of p m) (Err (fetch_of_update e))
told_refusal p m update.NoMemory h = tt
told_refusal p m (update.FindReference name) h = judged_err p m (update.FindReference name) h
told_refusal p m (update.InvalidRefName name) h = judged_err p m (update.InvalidRefName name) h
told_refusal p m (update.FindCommit id) h = judged_err p m (update.FindCommit id) h
told_refusal p m (update.PeelToId name cause) h = judged_err p m (update.PeelToId name cause) h
told_refusal p m update.WorktreeListing h = tt
told_refusal p m update.OpenWorktreeRepo h = tt
told_refusal p m update.FollowSymref h = tt

-- what the policy answers is told as no fault of the work trees
pub policy_trees : (p : Policy) (m : RefMap) (e : UpdateError) → AnswersUnless {A = Outcome} is_memory (outcome_of p m.refspecs m.extra_refspecs m.mappings) (Err e) → fault_in (fetch_of_update e) ≡ None
policy_trees p m update.NoMemory h = refl
policy_trees p m (update.FindReference name) h = refl
policy_trees p m (update.InvalidRefName name) h = refl
policy_trees p m (update.FindCommit id) h = refl
policy_trees p m (update.PeelToId name cause) h = refl
policy_trees p m update.WorktreeListing h = let k : true ≡ false = no_fault p m.refspecs m.extra_refspecs m.mappings update.WorktreeListing h in absurd (cc)
policy_trees p m update.OpenWorktreeRepo h = let k : true ≡ false = no_fault p m.refspecs m.extra_refspecs m.mappings update.OpenWorktreeRepo h in absurd (cc)
policy_trees p m update.FollowSymref h = let k : true ≡ false = no_fault p m.refspecs m.extra_refspecs m.mappings update.FollowSymref h in absurd (cc)

-- the same answer, over what the slices of the code hold
pub at_slices : (p : List Worktree → Policy) (m : RefMap) (trees held : List Worktree) (mappings : List Mapping) (specs extra : List Spec) (r : Result Outcome UpdateError) → held ≡ trees → mappings ≡ m.mappings → specs ≡ m.refspecs
    → extra ≡ m.extra_refspecs → AnswersUnless {A = Outcome} is_memory (outcome_of (p held) specs extra mappings) r → AnswersUnless {A = Outcome} is_memory (outcome_of (p trees) m.refspecs m.extra_refspecs m.mappings) r
at_slices p m trees held mappings specs extra r same a b c h =
    let is : outcome_of (p held) specs extra mappings ≡ outcome_of (p trees) m.refspecs m.extra_refspecs m.mappings = rw (same, a, b, c) refl in
    subst (λ (x : Result Outcome UpdateError). AnswersUnless {A = Outcome} is_memory x r) is h
