-- What becomes of the mapped references.
use Rattle.std.specs.Prelude.{◌≡◌, ◌⊎◌, ℕ, Bool, true, false, List, Option, Result, Ok, Err, IfSome}
use Rattle.fetch_base.specs.Answers.{AnswersUnless}
use Rattle.fetch_base.specs.Calls.{one_more}
use Rattle.fetch_update.specs.Outcomes.{outcome_of}
use Rattle.fetch_update.specs.Policy.{Policy}
use Rattle.fetch_update.specs.declared.update.Error.{Error as UpdateError}
use Rattle.fetch_update.specs.declared.update.Outcome.{Outcome}
use Rattle.fetch_update.specs.declared.worktrees.Worktree.{Worktree}
use Rattle.fetch_map.specs.declared.mapping.RefMap.{RefMap}
use Rattle.fetch_conversation.specs.Errors.{fetch_of_update, is_worktree_fault}
use Rattle.fetch_conversation.specs.declared.fetch.Error.{Error}
use Rattle.fetch_conversation.specs.declared.fetch.Error.TheVariants as errors

-- a refusal of the policy, as a fetch tells it
abbrev pub judged_as : Result Outcome UpdateError → Result Outcome Error
judged_as (Ok outcome) = Ok outcome
judged_as (Err e) = Err (fetch_of_update e)

-- the policy over all mappings
unfoldable pub judged_of : Policy → RefMap → Result Outcome Error
judged_of p m = judged_as (outcome_of p m.refspecs m.extra_refspecs m.mappings)

-- A fault of the worktrees has a count in place of a cause, and out of memory has neither.
abbrev pub is_free_judging : Error → Bool
is_free_judging (errors.UpdateRefs e) = is_worktree_fault e
is_free_judging errors.NoMemory = true
is_free_judging e = false

-- The list is the one that is told, where one is.
abbrev pub IsTold : Option (List Worktree) → List Worktree → Type 0
IsTold told trees = IfSome told (λ known. trees ≡ known)

-- They were asked for it once at most.
abbrev pub IsOnce : ℕ → ℕ → Type 0
IsOnce before now = (now ≡ before) ⊎ (now ≡ one_more before)

-- The mappings are judged by the policy over a list of worktrees, which is the one that is told.
pub record Judges (told : Option (List Worktree)) (policy : List Worktree → Policy) (m : RefMap)
    (result : Result Outcome Error) : Type 0 where
  pub trees : List Worktree
  pub listed_trees : IsTold told trees
  pub by : AnswersUnless is_free_judging (judged_of (policy trees) m) result
