-- One parent after the other is looked at.
use Rattle.std.proofs.Common.{◌≡◌, ℕ, Bool, true, false, cond, List, [], ◌∷◌, ◌++◌, Option, Some, None, Contains, refl, sym, ap, subst, ◌∙◌, append_assoc, arith, inl, inr}
use Rattle.std.specs.Prelude.{IsSome}
use Rattle.std.specs.Option.{option_and_then, option_map_or}
use Rattle.std.specs.FinMap.{get}
use Rattle.std.proofs.lemmas.List.{append-nil}
use Rattle.std.proofs.lemmas.List.Elements.{Contains-append_cases, Contains-append_right}
use Rattle.fetch_base.specs.declared.id.ObjectId.{ObjectId}
use Rattle.fetch_base.specs.declared.object_kind.ObjectKind.TheVariants.{Commit}
use Rattle.fetch_store.specs.Graph.{Graph, Node}
use Rattle.fetch_base.specs.Kinds.{is_kind}
use Rattle.fetch_update.specs.Dated.{IsCommit, parents_at}
use Rattle.fetch_update.specs.Walks.{State, Grows}
use Rattle.fetch_update.proofs.Seen.{Contains-one, Contains-first}

pub grows_then : (g : Graph) (limit : ℕ) (ids : List ObjectId) (p : ObjectId) (a b c : State) → Grows g limit ids a b → Contains ids p → Grows g limit (p ∷ []) b c → Grows g limit ids a c
grows_then g limit ids p a b c before one more = record {
  seen = λ q h. more.seen q (before.seen q h);
  kept = λ x h. more.kept x (before.kept x h);
  found = λ q h. elim (more.found q h) [
    | inl there ↦ elim (before.found q there) [
      | inl first ↦ inl first
      | inr waits ↦ inr (λ dated. let w = waits dated in (w.0, more.kept (w.0, q) w.1))
    ]
    | inr waits ↦ inr waits
  ];
  only = λ x h. elim (more.only x h) [
    | inl there ↦ before.only x there
    | inr new ↦ inr (subst (λ (q : ObjectId). Contains ids q) (Contains-one p x.1 new.0) one, new.1)
  ];
}

-- The walk has come this far in the parents: something is known of each one before, and these are left.
pub record Passed (P : ObjectId → Type 0) (xs left : List ObjectId) : Type 0 where
  pub before : List ObjectId
  pub whole : xs ≡ before ++ left
  pub each : (x : ObjectId) → Contains before x → P x

pub passed_none : (P : ObjectId → Type 0) (xs left : List ObjectId) → left ≡ xs → Passed P xs left
passed_none P xs left is = record { before = []; whole = sym is; each = λ x h. absurd (no_member x h) }
  where
    no_member : (x : ObjectId) → Contains [] x → ⊥
    no_member x (k, lt, at) = omega (arith, lt)

-- the first of those that are left is one of all
pub one_of : (P : ObjectId → Type 0) (xs left rest : List ObjectId) (x : ObjectId) → Passed P xs left → left ≡ x ∷ rest → Contains xs x
one_of P xs left rest x so_far is =
    subst (λ (ys : List ObjectId). Contains ys x) (sym (so_far.whole ∙ ap (λ (ys : List ObjectId). so_far.before ++ ys) is)) (Contains-append_right so_far.before (x ∷ rest) x (Contains-first x rest))

-- what is known may grow with each step
pub passed_more : (P Q : ObjectId → Type 0) (xs left rest : List ObjectId) (x : ObjectId) → Passed P xs left → left ≡ x ∷ rest → ((y : ObjectId) → P y → Q y) → Q x → Passed Q xs rest
passed_more P Q xs left rest x so_far is still here = record {
  before = so_far.before ++ x ∷ [];
  whole = so_far.whole ∙ ap (λ (ys : List ObjectId). so_far.before ++ ys) is ∙ sym (append_assoc so_far.before (x ∷ []) rest);
  each = λ y h. elim (Contains-append_cases so_far.before (x ∷ []) y h) [
    | inl before ↦ still y (so_far.each y before)
    | inr last ↦ subst Q (Contains-one x y last) here
  ];
}

-- where none is left
pub passed_all : (P : ObjectId → Type 0) (xs left : List ObjectId) → Passed P xs left → left ≡ [] → (x : ObjectId) → Contains xs x → P x
passed_all P xs left so_far none x h =
    so_far.each x (subst (λ (ys : List ObjectId). Contains ys x) (so_far.whole ∙ ap (λ (ys : List ObjectId). so_far.before ++ ys) none ∙ append-nil so_far.before) h)

-- the parents of a node that is a commit
pub commit_parents : (g : Graph) (id : ObjectId) → IsCommit g id → option_map_or (λ (n : Node). n.parents) (get g id) [] ≡ parents_at g id
commit_parents g id commit = of_node (get g id) commit
  where
    chosen : (n : Node) (b : Bool) → IsSome (cond b (Some n) None) → n.parents ≡ option_map_or (λ (m : Node). m.parents) (cond b (Some n) None) []
    chosen n true h = refl
    chosen n false h = absurd cc

    of_node : (o : Option Node) → IsSome (option_and_then (λ (n : Node). cond (is_kind n.kind Commit) (Some n) None) o) → option_map_or (λ (n : Node). n.parents) o [] ≡ option_map_or (λ (n : Node). n.parents) (option_and_then (λ (n : Node). cond (is_kind n.kind Commit) (Some n) None) o) []
    of_node None h = refl
    of_node (Some n) h = chosen n (is_kind n.kind Commit) h
