-- The branches that are checked out, one work tree after another.
use Rattle.std.proofs.Common.{◌≡◌, ℕ, Bool, true, false, cond, List, [], ◌∷◌, ◌++◌, refl, sym, ap, ◌∙◌}
use Rattle.std.specs.Prelude.{◌||◌}
use Rattle.std.specs.BTreeMap.{is_at}
use Rattle.std.specs.BTreeSet.{BTreeSet, contains}
use Rattle.std.specs.Cmp.Lexicographic.{texts_ties}
use Rattle.std.specs.Str.{bytes_eq}
use Rattle.std.proofs.lemmas.List.Folds.{list_any-append}
use Rattle.fetch_refs.specs.Names.{name_cmp}
use Rattle.fetch_update.specs.Trees.{is_checked_out}
use Rattle.fetch_update.specs.declared.worktrees.Worktree.{Worktree}
use Rattle.fetch_remote.specs.DeletionSteps.{AreBranches}

either : (t b : Bool) → cond t true b ≡ (b || (t || false))
either true true = refl
either true false = refl
either false true = refl
either false false = refl

pub one_more : (done : List Worktree) (w : Worktree) (branch : List ℕ) (old new : BTreeSet (List ℕ)) → branch ≡ w.branch
    → ((name : List ℕ) → contains name_cmp new name ≡ cond (is_at (name_cmp branch) name) true (contains name_cmp old name)) → AreBranches done old → AreBranches (done ++ w ∷ []) new
one_more done w branch old new same puts so_far name =
    puts name ∙ ap (λ (b : List ℕ). cond (is_at (name_cmp b) name) true (contains name_cmp old name)) same
    ∙ ap (λ (b : Bool). cond b true (contains name_cmp old name)) (sym (texts_ties w.branch name))
    ∙ ap (cond (bytes_eq w.branch name) true) (so_far name)
    ∙ either (bytes_eq w.branch name) (is_checked_out done name)
    ∙ sym (list_any-append (λ (x : Worktree). bytes_eq x.branch name) done (w ∷ []))
