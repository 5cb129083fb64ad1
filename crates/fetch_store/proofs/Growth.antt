-- A map of objects that grows.
use Rattle.std.proofs.Common.{◌≡◌, ◌⊎◌, true, Option, None, Some, is_some, inl, inr, refl, sym, ap, ◌∙◌}
use Rattle.std.specs.FinMap.{find, get}
use Rattle.fetch_base.specs.declared.id.ObjectId.{ObjectId}
use Rattle.fetch_objects.specs.Objects.{Stored}
use Rattle.fetch_store.specs.Stores.{Entries, ObjectMap, add_all, first_some}
use Rattle.fetch_base.specs.Id.{id_cmp}
use Rattle.fetch_store.proofs.Additions.{get-add_all}
use Rattle.fetch_store.specs.Closed.{Grows, IsStored, IsCommit, is_commit}

pub grows_self : (m : ObjectMap) → Grows m m
grows_self m = record { keeps = λ id o is. is }

pub grows_trans : (m n p : ObjectMap) → Grows m n → Grows n p → Grows m p
grows_trans m n p f g = record { keeps = λ id o is. g.keeps id o (f.keeps id o is) }

pub grows-add_all : (m : ObjectMap) (es : Entries) → Grows m (add_all m es)
grows-add_all m es = record { keeps = λ id o is. get-add_all m es id ∙ ap (λ x. first_some x (find id_cmp id es)) is }

module _ (m n : ObjectMap) (g : Grows m n) where
  pub stored_grows : (id : ObjectId) → IsStored m id → IsStored n id
  stored_grows id is = by_value (get m id) refl is
    where
      by_value : (x : Option Stored) → get m id ≡ x → is_some x ≡ true → IsStored n id
      by_value None e h = absurd cc
      by_value (Some o) e h = ap is_some (g.keeps id o e)

  pub commit_grows : (id : ObjectId) → IsCommit m id → IsCommit n id
  commit_grows id is = by_value (get m id) refl is
    where
      by_value : (x : Option Stored) → get m id ≡ x → is_commit x ≡ true → IsCommit n id
      by_value None e h = absurd cc
      by_value (Some o) e h = ap is_commit (g.keeps id o e) ∙ h

-- what a list brings is there afterwards
pub stored_added : (m : ObjectMap) (es : Entries) (id : ObjectId) → is_some (find id_cmp id es) ≡ true → IsStored (add_all m es) id
stored_added m es id is = ap is_some (get-add_all m es id) ∙ either (get m id) (find id_cmp id es) is
  where
    either : (x y : Option Stored) → is_some y ≡ true → is_some (first_some x y) ≡ true
    either None y h = h
    either (Some o) y h = refl

-- what is there afterwards was there before or was brought
pub added_cases : (m : ObjectMap) (es : Entries) (id : ObjectId) (o : Stored) → get (add_all m es) id ≡ Some o → (get m id ≡ Some o) ⊎ (find id_cmp id es ≡ Some o)
added_cases m es id o is = either (get m id) (find id_cmp id es) (sym (get-add_all m es id) ∙ is)
  where
    either : (x y : Option Stored) → first_some x y ≡ Some o → (x ≡ Some o) ⊎ (y ≡ Some o)
    either None y h = inr h
    either (Some p) y h = inl h
