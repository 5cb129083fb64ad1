-- No more distinct ids are stored than there are entries.
use Rattle.std.proofs.Common.{◌≡◌, ℕ, zero, suc, ◌-◌, ◌<◌, ◌≤◌, Bool, true, false, cond, List, [], ◌∷◌, length, None, refl, ap, ◌∙◌, arith}
use Rattle.std.specs.Prelude.{is_some}
use Rattle.std.specs.List.{AllByRecursion, IsDistinct}
use Rattle.std.specs.Ordering.{eq_by_cmp}
use Rattle.std.specs.FinMap.{FinMap, get, contains_key, remove, len, len-remove, get-remove, get-empty, empty_of_len}
use Rattle.fetch_base.specs.declared.id.ObjectId.{ObjectId}
use Rattle.fetch_base.specs.Id.{id_cmp}
use Rattle.fetch_base.proofs.Ids.{id_cmp_total}
use Rattle.fetch_store.proofs.IndexOf.{same_test}

-- each id is unlike those after it
abbrev pub AreDistinct : List ObjectId → Type 0
AreDistinct [] = Unit {0}
AreDistinct (k ∷ ks) = AllByRecursion (λ q. eq_by_cmp id_cmp q k ≡ false) ks × AreDistinct ks

abbrev pub AreStored : {X : Type 0} → FinMap id_cmp X → List ObjectId → Type 0
AreStored m ks = AllByRecursion (λ q. contains_key m q ≡ true) ks

not_empty : (b : Bool) → b ≡ false → b ≡ true → ⊥
not_empty b f t = absurd cc

module _ {X : Type 0} where
  some_left : (m : FinMap id_cmp X) (k : ObjectId) (n : ℕ) → len m ≡ n → contains_key m k ≡ true → 0 < n
  some_left m k zero e has = absurd (not_empty (contains_key m k) (ap (λ (n : FinMap id_cmp X). contains_key n k) (empty_of_len m e) ∙ ap is_some (get-empty id_cmp k)) has)
  some_left m k (suc n) e has = omega arith

  still : (m : FinMap id_cmp X) (k : ObjectId) (ks : List ObjectId) → AllByRecursion (λ q. eq_by_cmp id_cmp q k ≡ false) ks → AreStored m ks → AreStored (remove m k) ks
  still m k [] apart stored = tt
  still m k (q ∷ ks) apart stored =
      (ap is_some (get-remove id_cmp_total m k q ∙ ap (λ b. cond b None (get m q)) apart.0) ∙ stored.0, still m k ks apart.1 stored.1)

  pub no_more : (ks : List ObjectId) (m : FinMap id_cmp X) → AreDistinct ks → AreStored m ks → length ks ≤ len m
  no_more [] m apart stored = omega arith
  no_more (k ∷ ks) m apart stored =
      let fewer : len (remove m k) ≡ len m - 1 = len-remove id_cmp_total m k ∙ ap (λ b. cond b (len m - 1) (len m)) stored.0 in
      let rest : length ks ≤ len (remove m k) = no_more ks (remove m k) apart.1 (still m k ks apart.0 stored.1) in
      let some : 0 < len m = some_left m k (len m) refl stored.0 in
      omega arith

turned : (k : ObjectId) (ks : List ObjectId) → AllByRecursion (λ q. eq_by_cmp id_cmp k q ≡ false) ks → AllByRecursion (λ q. eq_by_cmp id_cmp q k ≡ false) ks
turned k [] apart = tt
turned k (q ∷ ks) apart = (same_test q k ∙ apart.0, turned k ks apart.1)

pub are_distinct : (ks : List ObjectId) → IsDistinct (eq_by_cmp id_cmp) ks → AreDistinct ks
unfolding IsDistinct
are_distinct [] apart = tt
are_distinct (k ∷ ks) apart = (turned k ks apart.0, are_distinct ks apart.1)
