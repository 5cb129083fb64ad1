-- Ids that were seen, and what is still to be read.
use Rattle.std.proofs.Common.{◌≡◌, ◌⊎◌, ℕ, ◌+◌, ◌<◌, ◌≤◌, Bool, true, false, cond, not, ◌||◌, List, [], ◌∷◌, length, Some, Contains, refl, sym, ap, subst, ◌∙◌, arith, inl, inr}
use Rattle.std.specs.Prelude.{sum_by, filter}
use Rattle.std.specs.List.{list_any}
use Rattle.std.specs.BTreeSet.{BTreeSet, Updates}
use Rattle.std.specs.Cmp.{Equal-is, eq_by_cmp_equiv, IsEquivalence}
use Rattle.std.specs.Ordering.{eq_by_cmp, is_eq}
use Rattle.std.specs.FinMap.{find}
use Rattle.std.proofs.lemmas.List.Sums.{sum_by-cons}
use Rattle.std.proofs.lemmas.List.Elements.{Contains-push_cases, Contains-append_cases, Contains-append_left, Contains-append_right, Contains-push}
use Rattle.std.specs.declared.cmp.Ordering.{Ordering}
use Rattle.fetch_base.specs.declared.id.ObjectId.{ObjectId}
use Rattle.fetch_base.specs.declared.object_kind.ObjectKind.TheVariants.{Commit}
use Rattle.fetch_base.specs.contracts.id.ObjectIdOrd.TheImpl as order
use Rattle.fetch_store.specs.Graph.{Node}
use Rattle.fetch_base.specs.Kinds.{is_kind}
use Rattle.fetch_base.specs.Id.{id_cmp}
use Rattle.fetch_base.proofs.Ids.{id_cmp_total, id_cmp_exact}
use Rattle.fetch_base.proofs.Orders.{cmp_is}
use Rattle.fetch_update.specs.Walks.{has, cost, cost_unseen}

laws : IsEquivalence (eq_by_cmp id_cmp)
laws = eq_by_cmp_equiv id_cmp_total

pub same : (a b : ObjectId) → eq_by_cmp id_cmp a b ≡ true → a ≡ b
same a b e = id_cmp_exact a b ((Equal-is (id_cmp a b)).0 e)

-- a list of ids, and the same with one that is new
pub record Added (a b : List ObjectId) (id : ObjectId) : Type 0 where
  pub all : (q : ObjectId) → has b q ≡ cond (eq_by_cmp id_cmp q id) true (has a q)
  pub new : has a id ≡ false

abbrev pub order_of : ObjectId → ObjectId → Ordering
order_of = (order.ghosts).cmp

pub added_in : (s n : BTreeSet ObjectId) (id : ObjectId) → Updates order_of s n id true → (q : ObjectId) → has n.keys q ≡ cond (eq_by_cmp id_cmp q id) true (has s.keys q)
added_in s n id u q =
    let v = subst (λ (R : ObjectId → ObjectId → Ordering). Updates R s n id true) cmp_is u in
    v.0 q ∙ ap (λ (b : Bool). cond b true (has s.keys q)) (laws.symm id q)

pub has_in : (s : BTreeSet ObjectId) (id : ObjectId) → list_any (λ k. is_eq (order_of id k)) s.keys ≡ has s.keys id
has_in s id = ap (λ (R : ObjectId → ObjectId → Ordering). list_any (λ k. is_eq (R id k)) s.keys) cmp_is

absent : (b new : Bool) → new ≡ not b → new ≡ true → b ≡ false
absent false new is added = refl
absent true new is added = absurd cc

-- what an insertion that answers true did
pub added_new : (s n : BTreeSet ObjectId) (id : ObjectId) (new : Bool) → new ≡ not (list_any (λ k. is_eq (order_of id k)) s.keys) → new ≡ true → Updates order_of s n id true → Added s.keys n.keys id
added_new s n id new is added u = record { all = added_in s n id u; new = sym (has_in s id) ∙ absent (list_any (λ k. is_eq (order_of id k)) s.keys) new is added }

kept_true : (t b : Bool) → b ≡ true → cond t true b ≡ true
kept_true true b h = refl
kept_true false b h = h

pub added_keeps : (a b : List ObjectId) (id : ObjectId) → Added a b id → (q : ObjectId) → has a q ≡ true → has b q ≡ true
added_keeps a b id more q h = more.all q ∙ kept_true (eq_by_cmp id_cmp q id) (has a q) h

pub added_has : (a b : List ObjectId) (id : ObjectId) → Added a b id → has b id ≡ true
added_has a b id more = more.all id ∙ ap (λ (t : Bool). cond t true (has a id)) (laws.refl id)

-- the new one, or one from before
which : (q id : ObjectId) (t b : Bool) → eq_by_cmp id_cmp q id ≡ t → cond t true b ≡ true → (q ≡ id) ⊎ (b ≡ true)
which q id true b is h = inl (same q id is)
which q id false b is h = inr h

pub added_cases : (a b : List ObjectId) (id : ObjectId) → Added a b id → (q : ObjectId) → has b q ≡ true → (q ≡ id) ⊎ (has a q ≡ true)
added_cases a b id more q h = which q id (eq_by_cmp id_cmp q id) (has a q) refl (sym (more.all q) ∙ h)

-- ---- members of a list

pub Contains-first : {X : Type 0} (x : X) (xs : List X) → Contains (x ∷ xs) x
Contains-first x xs = Contains-append_left (x ∷ []) xs x (Contains-push [] x)

pub Contains-later : {X : Type 0} (x : X) (xs : List X) (y : X) → Contains xs y → Contains (x ∷ xs) y
Contains-later x xs y h = Contains-append_right (x ∷ []) xs y h

pub Contains-none : {X : Type 0} (y : X) → Contains [] y → ⊥
Contains-none y h = let none : h.0 < 0 = h.1 in omega arith

pub Contains-one : {X : Type 0} (x y : X) → Contains (x ∷ []) y → x ≡ y
Contains-one x y h = elim (Contains-push_cases [] x y h) [ inl none ↦ absurd (Contains-none y none) | inr is ↦ is ]

pub Contains-cases : {X : Type 0} (x : X) (xs : List X) (y : X) → Contains (x ∷ xs) y → (x ≡ y) ⊎ Contains xs y
Contains-cases x xs y h = elim (Contains-append_cases (x ∷ []) xs y h) [ inl one ↦ inl (Contains-one x y one) | inr more ↦ inr more ]

-- ---- steps

-- one entry, which may be seen before or after
term : (x y : Bool) (c ra rb : ℕ) → (x ≡ true → y ≡ true) → rb ≤ ra → cond y 0 c + rb ≤ cond x 0 c + ra
term true true c ra rb h le = omega arith
term true false c ra rb h le = absurd (let no = h refl in cc)
term false true c ra rb h le = omega arith
term false false c ra rb h le = omega arith

pub unseen_mono : (a b : List ObjectId) (es : List (ObjectId × Node)) → ((q : ObjectId) → has a q ≡ true → has b q ≡ true) → cost_unseen b es ≤ cost_unseen a es
unseen_mono a b [] h = omega arith
unseen_mono a b (e ∷ es) h = term (has a e.0) (has b e.0) (cost e.1) (cost_unseen a es) (cost_unseen b es) (h e.0) (unseen_mono a b es h)

here : (x y : Bool) (c n ra rb : ℕ) → x ≡ false → y ≡ true → c ≡ n → rb ≤ ra → cond y 0 c + rb + n ≤ cond x 0 c + ra
here false true c n ra rb p q is le = omega arith
here true y c n ra rb p q is le = absurd cc
here false false c n ra rb p q is le = absurd cc

later : (x y : Bool) (c n ra rb : ℕ) → (x ≡ true → y ≡ true) → rb + n ≤ ra → cond y 0 c + rb + n ≤ cond x 0 c + ra
later true true c n ra rb h le = omega arith
later true false c n ra rb h le = absurd (let no = h refl in cc)
later false true c n ra rb h le = omega arith
later false false c n ra rb h le = omega arith

-- What the new one may cost is no longer ahead.
pub unseen_less : (a b : List ObjectId) (id : ObjectId) (n : Node) (es : List (ObjectId × Node)) → Added a b id → find id_cmp id es ≡ Some n → cost_unseen b es + cost n ≤ cost_unseen a es
unseen_less a b id n [] more is = absurd cc
unseen_less a b id n (e ∷ es) more is = by_test (unseen_less a b id n es more) (eq_by_cmp id_cmp id e.0) refl is
  where
    by_test : (find id_cmp id es ≡ Some n → cost_unseen b es + cost n ≤ cost_unseen a es) → (t : Bool) → eq_by_cmp id_cmp id e.0 ≡ t → cond t (Some e.1) (find id_cmp id es) ≡ Some n → cost_unseen b (e ∷ es) + cost n ≤ cost_unseen a (e ∷ es)
    by_test rest true tied found =
        let key : id ≡ e.0 = same id e.0 tied in
        let value : e.1 ≡ n = cc in
        here (has a e.0) (has b e.0) (cost e.1) (cost n) (cost_unseen a es) (cost_unseen b es) (ap (has a) (sym key) ∙ more.new) (ap (has b) (sym key) ∙ added_has a b id more) (ap cost value) (unseen_mono a b es (added_keeps a b id more))
    by_test rest false tied found =
        later (has a e.0) (has b e.0) (cost e.1) (cost n) (cost_unseen a es) (cost_unseen b es) (added_keeps a b id more e.0) (rest found)

abbrev commits_in : List (ObjectId × Node) → List (ObjectId × Node)
commits_in es = filter (λ e. is_kind e.1.kind Commit) es

-- all that there is to read
pub cost_all : (es : List (ObjectId × Node)) → cost_unseen [] es ≡ length (commits_in es) + sum_by (λ e. length e.1.parents) (commits_in es)
cost_all [] = refl
cost_all (e ∷ es) = by_kind (cost_all es) (is_kind e.1.kind Commit)
  where
    by_kind : cost_unseen [] es ≡ length (commits_in es) + sum_by (λ e. length e.1.parents) (commits_in es) → (t : Bool) → cond t (1 + length e.1.parents) 0 + cost_unseen [] es ≡ length (cond t (e ∷ commits_in es) (commits_in es)) + sum_by (λ e. length e.1.parents) (cond t (e ∷ commits_in es) (commits_in es))
    by_kind rest true = omega (arith, rest, sum_by-cons (λ (e : ObjectId × Node). length e.1.parents) e (commits_in es))
    by_kind rest false = omega (arith, rest)

alone : (t : Bool) → (t || false) ≡ cond t true false
alone true = refl
alone false = refl

-- a list of one
pub added_first : (id : ObjectId) → Added [] (id ∷ []) id
added_first id = record { all = λ q. alone (eq_by_cmp id_cmp q id); new = refl }
