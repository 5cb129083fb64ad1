-- A full name has neither a colon nor a star.
use Rattle.std.proofs.Common.{◌≡◌, ℕ, Bool, true, false, cond, not, ◌&&◌, ◌||◌, eqb, ltb, List, [], ◌∷◌, subst, refl, ap}
use Rattle.std.specs.Prelude.{IsTrue}
use Rattle.std.specs.List.{list_all, list_any, count_by, slice_split, onto_first}
use Rattle.std.specs.Str.{bytes_eq}
use Rattle.std.proofs.lemmas.Bool.{and_parts, and_from, or_from, eqb-true, not-true}
use Rattle.fetch_specs.specs.Names.{is_special, may_stand, is_component, components, is_name, is_full_name, last_is}

-- neither a colon nor a star
abbrev is_plain : ℕ → Bool
is_plain b = not (eqb b 58) && not (eqb b 42)

isnt : (x b : ℕ) → may_stand false x ≡ false → may_stand false b ≡ true → not (eqb b x) ≡ true
isnt x b never stands = by_test (eqb b x) refl
  where
    by_test : (t : Bool) → eqb b x ≡ t → not t ≡ true
    by_test false is = refl
    by_test true is = absurd (let h : may_stand false x ≡ true = subst (λ (y : ℕ). may_stand false y ≡ true) (eqb-true b x is) stands in cc)

stands_plain : (b : ℕ) → may_stand false b ≡ true → is_plain b ≡ true
stands_plain b stands = and_from (not (eqb b 58)) (not (eqb b 42)) (isnt 58 b refl stands) (isnt 42 b refl stands)

all_plain : (c : List ℕ) → list_all (may_stand false) c ≡ true → list_all is_plain c ≡ true
all_plain [] all = refl
all_plain (b ∷ c) all =
    let t = and_parts (may_stand false b) (list_all (may_stand false) c) all in
    and_from (is_plain b) (list_all is_plain c) (stands_plain b t.0) (all_plain c t.1)

first_of_six : (t u v w x y : Bool) → (t && u && v && w && x && y) ≡ true → t ≡ true
first_of_six true u v w x y is = refl
first_of_six false u v w x y is = absurd cc

first_of_three : (t u v : Bool) → (t && u && v) ≡ true → t ≡ true
first_of_three true u v is = refl
first_of_three false u v is = absurd cc

in_components : (parts : List (List ℕ)) → list_all (is_component false) parts ≡ true → list_all (list_all is_plain) parts ≡ true
in_components [] all = refl
in_components (c ∷ parts) all =
    let t = and_parts (is_component false c) (list_all (is_component false) parts) all in
    and_from (list_all is_plain c) (list_all (list_all is_plain) parts) (all_plain c (first_of_six (list_all (may_stand false) c) _ _ _ _ _ t.0)) (in_components parts t.1)

-- a byte put onto the first part
first_parts : (x : ℕ) (parts : List (List ℕ)) → list_all (list_all is_plain) (onto_first x parts) ≡ true → (is_plain x ≡ true) × (list_all (list_all is_plain) parts ≡ true)
first_parts x [] all = ((and_parts (is_plain x) true (and_parts (is_plain x && true) true all).0).0, refl)
first_parts x (c ∷ parts) all =
    let t = and_parts (is_plain x && list_all is_plain c) (list_all (list_all is_plain) parts) all in
    let u = and_parts (is_plain x) (list_all is_plain c) t.0 in
    (u.0, and_from (list_all is_plain c) (list_all (list_all is_plain) parts) u.1 t.1)

in_parts : (text : List ℕ) → list_all (list_all is_plain) (slice_split (λ b. eqb b 47) text) ≡ true → list_all is_plain text ≡ true
in_parts [] all = refl
in_parts (x ∷ text) all = step (eqb x 47) refl all (in_parts text)
  where
    step : (t : Bool) → eqb x 47 ≡ t → list_all (list_all is_plain) (cond t ([] ∷ slice_split (λ b. eqb b 47) text) (onto_first x (slice_split (λ b. eqb b 47) text))) ≡ true
        → (list_all (list_all is_plain) (slice_split (λ b. eqb b 47) text) ≡ true → list_all is_plain text ≡ true) → (is_plain x && list_all is_plain text) ≡ true
    step true is h rest = and_from (is_plain x) (list_all is_plain text) (ap is_plain (eqb-true x 47 is)) (rest h)
    step false is h rest =
        let p = first_parts x (slice_split (λ b. eqb b 47) text) h in
        and_from (is_plain x) (list_all is_plain text) p.0 (rest p.1)

plain_name : (name : List ℕ) → is_name false name ≡ true → list_all is_plain name ≡ true
unfolding is_name
plain_name name is = in_parts name (in_components (components name) (first_of_three (list_all (is_component false) (components name)) _ _ is))

none_of : (text : List ℕ) → list_all is_plain text ≡ true → (list_any (λ b. eqb b 58) text ≡ false) × (list_any (λ b. eqb b 42) text ≡ false) × (count_by (λ b. eqb b 42) text ≡ 0)
none_of [] all = (refl, refl, refl)
none_of (b ∷ text) all =
    let t = and_parts (is_plain b) (list_all is_plain text) all in
    let u = and_parts (not (eqb b 58)) (not (eqb b 42)) t.0 in
    let rest = none_of text t.1 in
    let colon = not-true (eqb b 58) u.0 in
    let star = not-true (eqb b 42) u.1 in
    (or_from (eqb b 58) _ colon rest.0, or_from (eqb b 42) _ star rest.1, rw star rest.2)

-- ---- what is a name without stars is one where stars may stand

with_star : (t u v w : Bool) → (t && u && v && (false || w)) ≡ true → (t && u && v && (true || w)) ≡ true
with_star true true true w is = refl
with_star false u v w is = is
with_star true false v w is = is
with_star true true false w is = is

swapped_of_six : (t t' u v w x y : Bool) → (t ≡ true → t' ≡ true) → (t && u && v && w && x && y) ≡ true → (t' && u && v && w && x && y) ≡ true
swapped_of_six true t' u v w x y more is = rw (more refl) is
swapped_of_six false t' u v w x y more is = absurd cc

swapped_of_three : (t t' u v : Bool) → (t ≡ true → t' ≡ true) → (t && u && v) ≡ true → (t' && u && v) ≡ true
swapped_of_three true t' u v more is = rw (more refl) is
swapped_of_three false t' u v more is = absurd cc

all_stand : (c : List ℕ) → list_all (may_stand false) c ≡ true → list_all (may_stand true) c ≡ true
all_stand [] all = refl
all_stand (b ∷ c) all =
    let t = and_parts (may_stand false b) (list_all (may_stand false) c) all in
    and_from (may_stand true b) (list_all (may_stand true) c) (with_star (ltb 32 b) (not (eqb b 127)) (not (is_special b)) (not (eqb b 42)) t.0) (all_stand c t.1)

all_components : (parts : List (List ℕ)) → list_all (is_component false) parts ≡ true → list_all (is_component true) parts ≡ true
all_components [] all = refl
all_components (c ∷ parts) all =
    let t = and_parts (is_component false c) (list_all (is_component false) parts) all in
    and_from (is_component true c) (list_all (is_component true) parts)
    (swapped_of_six (list_all (may_stand false) c) (list_all (may_stand true) c) _ _ _ _ _ (all_stand c) t.0) (all_components parts t.1)

-- What a full name is, and isn't.
pub record IsPlainName (name : List ℕ) : Type 0 where
  pub no_colon : list_any (λ b. eqb b 58) name ≡ false
  pub no_star : list_any (λ b. eqb b 42) name ≡ false
  pub stars : count_by (λ b. eqb b 42) name ≡ 0
  pub starred : is_name true name ≡ true
  pub other : bytes_eq name (64 ∷ []) ≡ false

last_of_three : (t u v : Bool) → (t && u && not v) ≡ true → v ≡ false
last_of_three true true false is = refl
last_of_three true true true is = absurd cc
last_of_three true false v is = absurd cc
last_of_three false u v is = absurd cc

pub full_is_plain : (name : List ℕ) → IsTrue (is_full_name name) → IsPlainName name
unfolding is_full_name is_name
full_is_plain name is =
    let named = (and_parts (is_name false name) _ is).0 in
    let none = none_of name (plain_name name named) in
    record {
      no_colon = none.0;
      no_star = none.1;
      stars = none.2;
      starred = swapped_of_three (list_all (is_component false) (components name)) (list_all (is_component true) (components name)) _ _ (all_components (components name)) named;
      other = last_of_three (list_all (is_component false) (components name)) (not (last_is 46 name)) (bytes_eq name (64 ∷ [])) named;
    }
