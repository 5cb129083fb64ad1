-- What a refusal behind the taking is one of.
use Rattle.std.proofs.Common.{◌≡◌, ◌⊎◌, List, ℕ, Option, None, refl, sym, subst, inl, inr}
use Rattle.fetch_files.specs.Trees.{Tree}
use Rattle.fetch_conversation.specs.declared.fetch.Error.{Error}
use Rattle.fetch_conversation.specs.declared.fetch.Error.TheVariants as receive
use Rattle.fetch_remote.specs.Blame.{fault_in}
use Rattle.fetch_remote.specs.Keeping.{IsUnmade}
use Rattle.fetch_remote.specs.Applying as remote
use Rattle.fetch_shared.specs.Applying.{IsOfJudging}

-- the keep file couldn't be made, or memory ran out
pub unmade_only : (keep : Option (List ℕ)) (files left : Option Tree) (e : Error) → IsUnmade keep files left e → IsOfJudging e
unmade_only keep files left e h = by h.why
  where
    by : (e ≡ receive.KeepFile h.path) ⊎ (e ≡ receive.NoMemory) → IsOfJudging e
    by (inl is) = subst IsOfJudging (sym is) tt
    by (inr is) = subst IsOfJudging (sym is) tt

-- neither is a fault of the work trees
pub unmade_trees : (keep : Option (List ℕ)) (files left : Option Tree) (e : Error) → IsUnmade keep files left e → fault_in e ≡ None
unmade_trees keep files left e h = by h.why
  where
    by : (e ≡ receive.KeepFile h.path) ⊎ (e ≡ receive.NoMemory) → fault_in e ≡ None
    by (inl is) = rw is refl
    by (inr is) = rw is refl

-- a refusal of the policy or of the work trees, or memory ran out
pub judging_only : (e : Error) → remote.IsOfJudging e → IsOfJudging e
judging_only e (inl is) = subst IsOfJudging (sym is) tt
judging_only e (inr (cause, is)) = subst IsOfJudging (sym is) tt
