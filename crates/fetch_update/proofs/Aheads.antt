-- Looking for a dated path finds one exactly where there is one.
use Rattle.std.proofs.Common.{◌≡◌, ◌⊎◌, ℕ, zero, suc, ◌≤◌, Bool, true, false, List, [], ◌∷◌, ◌++◌, length, Option, Some, None, Contains, refl, sym, ap, ◌∙◌, subst, arith, inl, inr}
use Rattle.std.specs.Prelude.{if◌then◌else◌, ◌↔◌, ◌&&◌, ◌||◌, IsTrue, is_some, nat_le}
use Rattle.std.specs.List.{AllByRecursion, list_any}
use Rattle.std.specs.Ordering.{eq_by_cmp, is_eq}
use Rattle.std.specs.Cmp.{tied_itself, Equal-is}
use Rattle.std.specs.Option.{option_and_then}
use Rattle.std.specs.FinMap.{get, len}
use Rattle.std.proofs.lemmas.Bool.{leb-true, le-leb}
use Rattle.fetch_base.proofs.Ids.{id_cmp_total, id_cmp_exact}
use Rattle.fetch_base.specs.declared.id.ObjectId.{ObjectId}
use Rattle.fetch_base.specs.declared.object_kind.ObjectKind.TheVariants.{Commit}
use Rattle.fetch_base.specs.Kinds.{is_kind}
use Rattle.fetch_store.specs.Graph.{Graph, Node}
use Rattle.fetch_base.specs.Id.{id_cmp}
use Rattle.fetch_update.specs.Dated.{IsCommit, HasDatedPath, LeadsOn, IsLinked, IsPathAbove, commit_at, parents_at, seconds_at}
use Rattle.fetch_update.specs.Ahead.{is_ahead, is_dated, leads}
use Rattle.fetch_store.proofs.Pigeons.{AreDistinct, AreStored, no_more}
use Rattle.fetch_update.proofs.Seen.{Contains-first, Contains-later, Contains-none, Contains-cases}

both : (a b : Bool) → (a && b) ≡ true → (a ≡ true) × (b ≡ true)
both true true e = (refl, refl)
both true false e = absurd cc
both false b e = absurd cc

join : (a b : Bool) → a ≡ true → b ≡ true → (a && b) ≡ true
join a b p q = cc

either : (a b : Bool) → (a || b) ≡ true → (a ≡ true) ⊎ (b ≡ true)
either true b e = inl refl
either false b e = inr e

left_is : (a b : Bool) → a ≡ true → (a || b) ≡ true
left_is true b e = refl
left_is false b e = absurd cc

right_is : (a b : Bool) → b ≡ true → (a || b) ≡ true
right_is true b e = refl
right_is false b e = e

same : (a b : ObjectId) → eq_by_cmp id_cmp a b ≡ true → a ≡ b
same a b e = id_cmp_exact a b ((Equal-is (id_cmp a b)).0 e)

tied : (a b : ObjectId) → a ≡ b → eq_by_cmp id_cmp a b ≡ true
tied a b e = ap (eq_by_cmp id_cmp a) (sym e) ∙ ap is_eq (tied_itself id_cmp_total a)

some_passes : {X : Type 0} (p : X → Bool) (xs : List X) → list_any p xs ≡ true → (x : X) × Contains xs x × (p x ≡ true)
some_passes p [] e = absurd cc
some_passes p (x ∷ xs) e = elim (either (p x) (list_any p xs) e) [
  | inl here ↦ (x, Contains-first x xs, here)
  | inr later ↦ let r = some_passes p xs later in (r.0, Contains-later x xs r.0 r.1, r.2)
]

passes : {X : Type 0} (p : X → Bool) (xs : List X) (x : X) → Contains xs x → p x ≡ true → list_any p xs ≡ true
passes p [] x among e = absurd (Contains-none x among)
passes p (y ∷ ys) x among e = elim (Contains-cases y ys x among) [
  | inl is ↦ left_is (p y) (list_any p ys) (ap p is ∙ e)
  | inr later ↦ right_is (p y) (list_any p ys) (passes p ys x later e)
]

-- dated commits from one id to another, each next one a parent of the one before
abbrev IsWay : Graph → ℕ → ObjectId → ObjectId → List ObjectId → Type 0
IsWay g limit to a [] = (is_dated g limit a ≡ true) × (a ≡ to)
IsWay g limit to a (b ∷ rest) = (is_dated g limit a ≡ true) × Contains (parents_at g a) b × IsWay g limit to b rest

-- ---- what is found is a way

way_found : (g : Graph) (limit : ℕ) (to : ObjectId) (n : ℕ) (from : ObjectId) → leads g limit n from to ≡ true → (rest : List ObjectId) × IsWay g limit to from rest
way_found g limit to zero from e =
    let h = both (is_dated g limit from) (eq_by_cmp id_cmp from to) e in
    ([], (h.0, same from to h.1))
way_found g limit to (suc n) from e =
    let h = both (is_dated g limit from) (eq_by_cmp id_cmp from to || list_any (λ parent. leads g limit n parent to) (parents_at g from)) e in
    elim (either (eq_by_cmp id_cmp from to) (list_any (λ parent. leads g limit n parent to) (parents_at g from)) h.1) [
      | inl is ↦ ([], (h.0, same from to is))
      | inr more ↦
          let p = some_passes (λ parent. leads g limit n parent to) (parents_at g from) more in
          let w = way_found g limit to n p.0 p.2 in
          (p.0 ∷ w.0, (h.0, p.1, w.1))
    ]

-- ---- a way without a detour

abbrev Short : Graph → ℕ → ObjectId → ObjectId → Type 0
Short g limit to a = (rest : List ObjectId) × (IsWay g limit to a rest × AreDistinct (a ∷ rest))

way_from : (g : Graph) (limit : ℕ) (to a b : ObjectId) (rest : List ObjectId) → IsWay g limit to b rest → AreDistinct (b ∷ rest) → list_any (λ q. eq_by_cmp id_cmp q a) (b ∷ rest) ≡ true → Short g limit to a
way_from g limit to a b [] w apart among = elim (either (eq_by_cmp id_cmp b a) false among) [
  | inl is ↦ subst (Short g limit to) (same b a is) ([], (w, apart))
  | inr other ↦ absurd (let n : false ≡ true = other in cc)
]
way_from g limit to a b (c ∷ rest) w apart among = elim (either (eq_by_cmp id_cmp b a) (list_any (λ q. eq_by_cmp id_cmp q a) (c ∷ rest)) among) [
  | inl is ↦ subst (Short g limit to) (same b a is) (c ∷ rest, (w, apart))
  | inr later ↦ way_from g limit to a c rest w.2 apart.1 later
]

apart_from : (a : ObjectId) (ks : List ObjectId) → list_any (λ q. eq_by_cmp id_cmp q a) ks ≡ false → AllByRecursion (λ q. eq_by_cmp id_cmp q a ≡ false) ks
apart_from a [] none = tt
apart_from a (k ∷ ks) none = (neither_left _ _ none, apart_from a ks (neither_right _ _ none))
  where
    neither_left : (x y : Bool) → (x || y) ≡ false → x ≡ false
    neither_left true y e = absurd cc
    neither_left false y e = refl

    neither_right : (x y : Bool) → (x || y) ≡ false → y ≡ false
    neither_right true y e = absurd cc
    neither_right false y e = e

extended : (g : Graph) (limit : ℕ) (to a b : ObjectId) → is_dated g limit a ≡ true → Contains (parents_at g a) b → (s : Short g limit to b) → (t : Bool) → list_any (λ q. eq_by_cmp id_cmp q a) (b ∷ s.0) ≡ t → Short g limit to a
extended g limit to a b dated parent s true among = way_from g limit to a b s.0 s.1.0 s.1.1 among
extended g limit to a b dated parent s false none = (b ∷ s.0, ((dated, parent, s.1.0), (apart_from a (b ∷ s.0) none, s.1.1)))

shortened : (g : Graph) (limit : ℕ) (to a : ObjectId) (rest : List ObjectId) → IsWay g limit to a rest → Short g limit to a
shortened g limit to a [] w = ([], (w, (tt, tt)))
shortened g limit to a (b ∷ rest) w = extended g limit to a b w.0 w.1 (shortened g limit to b rest w.2) (list_any (λ q. eq_by_cmp id_cmp q a) (b ∷ (shortened g limit to b rest w.2).0)) refl

-- ---- a way is found in as many steps as it has

found_in : (g : Graph) (limit : ℕ) (to a : ObjectId) (rest : List ObjectId) (n : ℕ) → IsWay g limit to a rest → length rest ≤ n → leads g limit n a to ≡ true
found_in g limit to a [] zero w le = join (is_dated g limit a) (eq_by_cmp id_cmp a to) w.0 (tied a to w.1)
found_in g limit to a [] (suc n) w le =
    join (is_dated g limit a) (eq_by_cmp id_cmp a to || list_any (λ parent. leads g limit n parent to) (parents_at g a)) w.0 (left_is _ _ (tied a to w.1))
found_in g limit to a (b ∷ rest) zero w le = absurd (omega arith)
found_in g limit to a (b ∷ rest) (suc n) w le =
    join (is_dated g limit a) (eq_by_cmp id_cmp a to || list_any (λ parent. leads g limit n parent to) (parents_at g a)) w.0
    (right_is (eq_by_cmp id_cmp a to) _ (passes (λ parent. leads g limit n parent to) (parents_at g a) b w.1 (found_in g limit to b rest n w.2 (omega arith))))

stored_commit : (o : Option Node) → is_some (option_and_then (λ (n : Node). if is_kind n.kind Commit then Some n else None) o) ≡ true → is_some o ≡ true
stored_commit None e = absurd cc
stored_commit (Some n) e = refl

way_stored : (g : Graph) (limit : ℕ) (to a : ObjectId) (rest : List ObjectId) → IsWay g limit to a rest → AreStored g (a ∷ rest)
way_stored g limit to a [] w = (stored_commit (get g a) ((both _ _ w.0).0), tt)
way_stored g limit to a (b ∷ rest) w = (stored_commit (get g a) ((both _ _ w.0).0), way_stored g limit to b rest w.2)

found_short : (g : Graph) (limit : ℕ) (to a : ObjectId) → Short g limit to a → leads g limit (len g) a to ≡ true
found_short g limit to a s =
    let few : length (a ∷ s.0) ≤ len g = no_more (a ∷ s.0) g s.1.1 (way_stored g limit to a s.0 s.1.0) in
    found_in g limit to a s.0 (len g) s.1.0 (omega arith)

-- ---- ways and paths

path_linked : (g : Graph) (limit : ℕ) (to a : ObjectId) (rest : List ObjectId) → IsWay g limit to a rest → LeadsOn g a rest
path_linked g limit to a [] w = tt
path_linked g limit to a (b ∷ rest) w = (w.1, path_linked g limit to b rest w.2)

path_ends : (g : Graph) (limit : ℕ) (to a : ObjectId) (rest : List ObjectId) → IsWay g limit to a rest → (before : List ObjectId) × (a ∷ rest ≡ before ++ to ∷ [])
path_ends g limit to a [] w = ([], ap (λ (x : ObjectId). x ∷ []) w.1)
path_ends g limit to a (b ∷ rest) w = let e = path_ends g limit to b rest w.2 in (a ∷ e.0, ap (λ (xs : List ObjectId). a ∷ xs) e.1)

path_commits : (g : Graph) (limit : ℕ) (to a : ObjectId) (rest : List ObjectId) → IsWay g limit to a rest → AllByRecursion (λ q. IsCommit g q) (a ∷ rest)
path_commits g limit to a [] w = ((both _ _ w.0).0, tt)
path_commits g limit to a (b ∷ rest) w = ((both _ _ w.0).0, path_commits g limit to b rest w.2)

path_dated : (g : Graph) (limit : ℕ) (to a : ObjectId) (rest : List ObjectId) → IsWay g limit to a rest → AllByRecursion (λ q. limit ≤ seconds_at g q) (a ∷ rest)
path_dated g limit to a [] w = (leb-true limit (seconds_at g a) ((both _ _ w.0).1), tt)
path_dated g limit to a (b ∷ rest) w = (leb-true limit (seconds_at g a) ((both _ _ w.0).1), path_dated g limit to b rest w.2)

path_of : (g : Graph) (limit : ℕ) (to a : ObjectId) → (rest : List ObjectId) × IsWay g limit to a rest → (path : List ObjectId) × IsPathAbove g limit a to path
path_of g limit to a (rest, w) =
    (a ∷ rest, record { begins = (rest, refl); ends = path_ends g limit to a rest w; linked = path_linked g limit to a rest w; commits = path_commits g limit to a rest w; dated = path_dated g limit to a rest w })

-- a list of one has that one at its end
only : (x y : ObjectId) (before : List ObjectId) → x ∷ [] ≡ before ++ y ∷ [] → x ≡ y
only x y [] e = cc
only x y (b ∷ []) e = absurd cc
only x y (b ∷ c ∷ bs) e = absurd cc

tail_ends : (a b to : ObjectId) (rest before : List ObjectId) → a ∷ b ∷ rest ≡ before ++ to ∷ [] → (before' : List ObjectId) × (b ∷ rest ≡ before' ++ to ∷ [])
tail_ends a b to rest [] e = absurd cc
tail_ends a b to rest (x ∷ xs) e = (xs, cc)

way_of : (g : Graph) (limit : ℕ) (to a : ObjectId) (rest : List ObjectId) → LeadsOn g a rest → (before : List ObjectId) × (a ∷ rest ≡ before ++ to ∷ []) → AllByRecursion (λ q. IsCommit g q) (a ∷ rest) → AllByRecursion (λ q. limit ≤ seconds_at g q) (a ∷ rest) → IsWay g limit to a rest
way_of g limit to a [] linked ends commits dated = (join (is_some (commit_at g a)) (nat_le limit (seconds_at g a)) commits.0 (le-leb limit (seconds_at g a) dated.0), only a to ends.0 ends.1)
way_of g limit to a (b ∷ rest) linked ends commits dated = (
  join (is_some (commit_at g a)) (nat_le limit (seconds_at g a)) commits.0 (le-leb limit (seconds_at g a) dated.0),
  linked.0,
  way_of g limit to b rest linked.1 (tail_ends a b to rest ends.0 ends.1) commits.1 dated.1,
)

way_in : (g : Graph) (limit : ℕ) (to a : ObjectId) → (path : List ObjectId) × IsPathAbove g limit a to path → (rest : List ObjectId) × IsWay g limit to a rest
way_in g limit to a (path, is) =
    let rest = is.begins.0 in (
      rest,
      way_of g limit to a rest (subst (IsLinked g) is.begins.1 is.linked) (is.ends.0, sym is.begins.1 ∙ is.ends.1)
          (subst (λ (t : List ObjectId). AllByRecursion (λ q. IsCommit g q) t) is.begins.1 is.commits) (subst (λ (t : List ObjectId). AllByRecursion (λ q. limit ≤ seconds_at g q) t) is.begins.1 is.dated),
    )

-- the test answers true exactly where there is a dated path
pub ahead_is : (g : Graph) (from to : ObjectId) → IsTrue (is_ahead g from to) ↔ HasDatedPath g from to
unfolding is_ahead
ahead_is g from to = (
  λ e. path_of g (seconds_at g to) to from (way_found g (seconds_at g to) to (len g) from e),
  λ p. let w = way_in g (seconds_at g to) to from p in found_short g (seconds_at g to) to from (shortened g (seconds_at g to) to from w.0 w.1),
)

alike : (P : Type 0) (a b : Bool) → (IsTrue a ↔ P) → (IsTrue b ↔ P) → a ≡ b
alike P true true p q = refl
alike P true false p q = sym (q.1 (p.0 refl))
alike P false true p q = p.1 (q.0 refl)
alike P false false p q = refl

pub found_ahead : (g : Graph) (from to : ObjectId) (found : Bool) → (IsTrue found ↔ HasDatedPath g from to) → found ≡ is_ahead g from to
found_ahead g from to found is = alike (HasDatedPath g from to) found (is_ahead g from to) is (ahead_is g from to)
