-- What holds of what a test or a look-up finds.
use Rattle.std.proofs.Common.{◌≡◌, Bool, true, false, cond, not, List, [], ◌∷◌, ◌++◌, map, filter, flat_map, Option, Some, All, refl, sym, subst}
use Rattle.std.specs.Ordering.{eq_by_cmp}
use Rattle.std.specs.Cmp.{Equal-is}
use Rattle.std.specs.FinMap.{find}
use Rattle.std.proofs.lemmas.List.Elements.{All-nil, All-cons, All-head, All-tail}
use Rattle.fetch_base.specs.declared.id.ObjectId.{ObjectId}
use Rattle.fetch_objects.specs.Objects.{Stored}
use Rattle.fetch_base.specs.declared.id.Kind.{Kind}
use Rattle.fetch_store.specs.Stores.{Entries, AreOf}
use Rattle.fetch_base.specs.Id.{id_cmp}
use Rattle.fetch_base.proofs.Ids.{id_cmp_exact}

-- an entry that is found
module _ {X : Type 0} (P : ObjectId × X → Type 0) (q : ObjectId) (o : X) where
  found_of : (e : ObjectId × X) (b : Bool) (more : Option X) → eq_by_cmp id_cmp q e.0 ≡ b → P e → (more ≡ Some o → P (q, o)) → cond b (Some e.1) more ≡ Some o → P (q, o)
  found_of e true more t here there h =
      let key : e.0 ≡ q = sym (id_cmp_exact q e.0 ((Equal-is (id_cmp q e.0)).0 t)) in
      let value : e.1 ≡ o = cc in
      let whole : ◌≡◌ {A = ObjectId × X} e (q, o) = λ i. (key i, value i) in
      subst P whole here
  found_of e false more t here there h = there h

  pub All-find : (es : List (ObjectId × X)) → All P es → find id_cmp q es ≡ Some o → P (q, o)
  All-find [] all is = absurd cc
  All-find (e ∷ es) all is =
      found_of e (eq_by_cmp id_cmp q e.0) (find id_cmp q es) refl (All-head P e es all) (λ h. All-find es (All-tail P e es all) h) is

-- what passes a test, and what is left of a list where each does
module _ {X : Type 0} (t : X → Bool) where
  none_of : (x : X) (b : Bool) (rest : List X) → b ≡ true → rest ≡ [] → cond (not b) (x ∷ rest) rest ≡ []
  none_of x true rest h k = k
  none_of x false rest h k = absurd cc

  pub filter_none : (xs : List X) → All (λ x. t x ≡ true) xs → filter (λ x. not (t x)) xs ≡ []
  filter_none [] all = refl
  filter_none (x ∷ xs) all = none_of x (t x) (filter (λ y. not (t y)) xs) (All-head (λ y. t y ≡ true) x xs all) (filter_none xs (All-tail (λ y. t y ≡ true) x xs all))

  none_first : (x : X) (b : Bool) (rest : List X) → cond (not b) (x ∷ rest) rest ≡ [] → (b ≡ true) × (rest ≡ [])
  none_first x true rest h = (refl, h)
  none_first x false rest h = absurd cc

  pub none_filter : (xs : List X) → filter (λ x. not (t x)) xs ≡ [] → All (λ x. t x ≡ true) xs
  none_filter [] is = All-nil (λ x. t x ≡ true)
  none_filter (x ∷ xs) is =
      let both = none_first x (t x) (filter (λ y. not (t y)) xs) is in
      All-cons (λ y. t y ≡ true) x xs both.0 (none_filter xs both.1)

pub map_nil : {X Y : Type 0} (f : X → Y) (xs : List X) → map f xs ≡ [] → xs ≡ []
map_nil f [] is = refl
map_nil f (x ∷ xs) is = absurd cc

module _ {X : Type 0} where
  pub nil_left : (xs ys : List X) → xs ++ ys ≡ [] → xs ≡ []
  nil_left [] ys is = refl
  nil_left (x ∷ xs) ys is = absurd cc

  pub nil_right : (xs ys : List X) → xs ++ ys ≡ [] → ys ≡ []
  nil_right [] ys is = is
  nil_right (x ∷ xs) ys is = absurd cc

  pub both_nil : (xs ys : List X) → xs ≡ [] → ys ≡ [] → xs ++ ys ≡ []
  both_nil [] ys p q = q
  both_nil (x ∷ xs) ys p q = absurd cc

pub flat_map_none : {X Y : Type 0} (f : X → List Y) (xs : List X) → All (λ x. f x ≡ []) xs → flat_map f xs ≡ []
flat_map_none f [] all = refl
flat_map_none f (x ∷ xs) all = both_nil (f x) (flat_map f xs) (All-head (λ y. f y ≡ []) x xs all) (flat_map_none f xs (All-tail (λ y. f y ≡ []) x xs all))

pub none_flat_map : {X Y : Type 0} (f : X → List Y) (xs : List X) → flat_map f xs ≡ [] → All (λ x. f x ≡ []) xs
none_flat_map f [] is = All-nil (λ x. f x ≡ [])
none_flat_map f (x ∷ xs) is = All-cons (λ y. f y ≡ []) x xs (nil_left (f x) (flat_map f xs) is) (none_flat_map f xs (nil_right (f x) (flat_map f xs) is))

-- entries of a hash have objects of it
pub All-of : (hash : Kind) (es : Entries) → AreOf hash es → All (λ e. e.1.hash ≡ hash) es
All-of hash [] h = All-nil (λ (e : ObjectId × Stored). e.1.hash ≡ hash)
All-of hash (e ∷ es) h = All-cons (λ (x : ObjectId × Stored). x.1.hash ≡ hash) e es h.0.1 (All-of hash es h.1)
