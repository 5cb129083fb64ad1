-- An index of a list that is walked from its end.
use Rattle.std.proofs.Common.{◌≡◌, Bool, true, false, cond, [], ◌∷◌, ◌++◌, length, Some, Bor, refl, sym, ap, subst, ◌∙◌, arith}
use Rattle.std.specs.Option.{option_copied}
use Rattle.std.specs.BTreeMap as tree
use Rattle.std.specs.Map.{lookup}
use Rattle.std.specs.BTreeMap.{BTreeMap}
use Rattle.std.specs.Ordering.{eq_by_cmp}
use Rattle.std.specs.Cmp.{Equal-is}
use Rattle.std.specs.FinMap.{find}
use Rattle.std.specs.declared.cmp.Ordering.{Ordering}
use Rattle.fetch_base.specs.declared.id.ObjectId.{ObjectId}
use Rattle.fetch_base.specs.contracts.id.ObjectIdOrd.TheImpl as order
use Rattle.fetch_objects.specs.Objects.{Stored}
use Rattle.fetch_store.specs.Stores.{Entries}
use Rattle.fetch_base.specs.Id.{id_cmp}
use Rattle.fetch_store.specs.Indexes.{IsIndexOf}
use Rattle.fetch_base.proofs.Ids.{id_cmp_exact}
use Rattle.fetch_store.proofs.Finds.{ties, not_tied}
use Rattle.fetch_base.proofs.Orders.{cmp_is}

abbrev pub Index : Type 0
Index = BTreeMap ObjectId (Bor Stored)

abbrev Gains : (ObjectId → ObjectId → Ordering) → Index → Index → ObjectId → Bor Stored → Type 0
Gains cmp s t id v = (q : ObjectId) → tree.get cmp t q ≡ cond (eq_by_cmp cmp id q) (Some v) (tree.get cmp s q)

-- the same test from either side
pub same_test : (a b : ObjectId) → eq_by_cmp id_cmp a b ≡ eq_by_cmp id_cmp b a
same_test a b = by_test (eq_by_cmp id_cmp a b) refl
  where
    by_test : (t : Bool) → eq_by_cmp id_cmp a b ≡ t → eq_by_cmp id_cmp a b ≡ eq_by_cmp id_cmp b a
    by_test true tied = tied ∙ sym (ties b a (sym (id_cmp_exact a b ((Equal-is (id_cmp a b)).0 tied))))
    by_test false other = other ∙ sym (not_tied b a (λ same. cc (sym other ∙ ties a b (sym same))))

-- an entry in front of the others
pub index_more : (es : Entries) (s t : Index) (e : ObjectId × Stored) (v : Bor Stored) → IsIndexOf es s → v.now ≡ e.1 → tree.Updates (order.ghosts).cmp s t e.0 (Some v) → IsIndexOf (e ∷ es) t
index_more es s t e v before is updates = record {
  each = λ q.
      ap option_copied (by q) ∙ chosen (eq_by_cmp id_cmp e.0 q) q ∙ ap (λ b. cond b (Some e.1) (find id_cmp q es)) (same_test e.0 q);
}
  where
    by : Gains id_cmp s t e.0 v
    by = subst (λ (cmp : ObjectId → ObjectId → Ordering). Gains cmp s t e.0 v) cmp_is updates.0

    chosen : (b : Bool) (q : ObjectId) → option_copied (cond b (Some v) (tree.get id_cmp s q)) ≡ cond b (Some e.1) (find id_cmp q es)
    chosen true q = ap Some is
    chosen false q = before.each q

-- the front that is left, and an index of what stands after it
pub record IsIndexing (all front : Entries) (index : Index) : Type 0 where
  pub rest : Entries
  pub whole : front ++ rest ≡ all
  pub indexed : IsIndexOf rest index

append-assoc : (xs ys zs : Entries) → (xs ++ ys) ++ zs ≡ xs ++ (ys ++ zs)
append-assoc [] ys zs = refl
append-assoc (x ∷ xs) ys zs = ap (λ (l : Entries). x ∷ l) (append-assoc xs ys zs)

pub indexing_more : (all front less : Entries) (s t : Index) (e : ObjectId × Stored) (v : Bor Stored) → front ≡ less ++ e ∷ [] → v.now ≡ e.1
    → tree.Updates (order.ghosts).cmp s t e.0 (Some v) → IsIndexing all front s → IsIndexing all less t
indexing_more all front less s t e v is same updates so_far = record {
  rest = e ∷ so_far.rest;
  whole = sym (append-assoc less (e ∷ []) so_far.rest) ∙ ap (λ (l : Entries). l ++ so_far.rest) (sym is) ∙ so_far.whole;
  indexed = index_more so_far.rest s t e v so_far.indexed same updates;
}

pub indexing_none : (all front : Entries) (index : Index) → front ≡ all → tree.IsEmpty index → IsIndexing all front index
indexing_none all front index is none = record { rest = []; whole = append-none front ∙ is; indexed = record { each = λ q. ap (λ l. option_copied (lookup (eq_by_cmp id_cmp q) l)) none } }
  where
    append-none : (xs : Entries) → xs ++ [] ≡ xs
    append-none [] = refl
    append-none (x ∷ xs) = ap (λ (l : Entries). x ∷ l) (append-none xs)

nothing_left : (front : Entries) → length front ≡ 0 → front ≡ []
nothing_left [] is = refl
nothing_left (x ∷ xs) is = absurd (omega arith)

pub indexing_done : (all front : Entries) (index : Index) → length front ≡ 0 → IsIndexing all front index → IsIndexOf all index
indexing_done all front index is so_far =
    subst (λ (es : Entries). IsIndexOf es index) (ap (λ (l : Entries). l ++ so_far.rest) (sym (nothing_left front is)) ∙ so_far.whole) so_far.indexed
