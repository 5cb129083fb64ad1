-- Lists without doubles, one more id at a time.
use Rattle.std.proofs.Common.{◌≡◌, ℕ, ◌+◌, ◌<◌, Bool, true, false, cond, not, List, [], ◌∷◌, ◌++◌, filter, take, get_or, length, refl, sym, ap, subst, ◌∙◌}
use Rattle.std.specs.Prelude.{◌||◌}
use Rattle.std.specs.BTreeSet as tree
use Rattle.std.specs.BTreeSet.{BTreeSet}
use Rattle.std.specs.Ordering.{eq_by_cmp}
use Rattle.std.specs.Cmp.{eq_by_cmp_equiv}
use Rattle.std.specs.declared.cmp.Ordering.{Ordering}
use Rattle.std.proofs.lemmas.List.{take_more}
use Rattle.std.specs.Cmp.{Equal-is}
use Rattle.fetch_base.specs.declared.id.ObjectId.{ObjectId}
use Rattle.fetch_base.specs.contracts.id.ObjectIdOrd.TheImpl as order
use Rattle.fetch_base.specs.Distinct.{with_distinct}
use Rattle.fetch_base.specs.Id.{id_cmp}
use Rattle.fetch_base.proofs.Ids.{id_cmp_total, id_cmp_exact}
use Rattle.fetch_base.proofs.Orders.{cmp_is}
use Rattle.fetch_negotiate.specs.Commits.{has}
use Rattle.fetch_negotiate.specs.Lists.{firsts}

abbrev pub Ids : Type 0
Ids = BTreeSet ObjectId

abbrev pub in_set : Ids → ObjectId → Bool
in_set s id = tree.contains id_cmp s id

-- a set that gains an id, which it may have had
pub record Adds (s t : Ids) (id : ObjectId) : Type 0 where
  pub elsewhere : (q : ObjectId) → in_set t q ≡ (eq_by_cmp id_cmp q id || in_set s q)

same_turned : (p q : ObjectId) → eq_by_cmp id_cmp p q ≡ eq_by_cmp id_cmp q p
same_turned = (eq_by_cmp_equiv id_cmp_total).symm

added : (b c : Bool) → cond b true c ≡ (b || c)
added true c = refl
added false c = refl

pub adds : (s t : Ids) (id : ObjectId) → tree.Updates (order.ghosts).cmp s t id true → Adds s t id
adds s t id updates =
    let by = subst (λ (cmp : ObjectId → ObjectId → Ordering). (q : ObjectId) → tree.contains cmp t q ≡ cond (eq_by_cmp cmp id q) true (tree.contains cmp s q)) cmp_is updates.0 in
    record { elsewhere = λ q. by q ∙ added (eq_by_cmp id_cmp id q) (in_set s q) ∙ ap (λ b. b || in_set s q) (same_turned id q) }

pub contains_is : (s : Ids) (id : ObjectId) → tree.contains (order.ghosts).cmp s id ≡ in_set s id
contains_is s id = ap (λ (cmp : ObjectId → ObjectId → Ordering). tree.contains cmp s id) cmp_is

pub has_push : (ids : List ObjectId) (id q : ObjectId) → has (ids ++ id ∷ []) q ≡ (eq_by_cmp id_cmp q id || has ids q)
has_push [] id q = refl
has_push (x ∷ ids) id q = ap (λ b. eq_by_cmp id_cmp q x || b) (has_push ids id q) ∙ swapped (eq_by_cmp id_cmp q x) (eq_by_cmp id_cmp q id) (has ids q)
  where
    swapped : (a b c : Bool) → (a || (b || c)) ≡ (b || (a || c))
    swapped true true c = refl
    swapped true false c = refl
    swapped false b c = refl

-- each of the ids once
pub record IsOnce (ids once : List ObjectId) : Type 0 where
  pub members : (q : ObjectId) → has once q ≡ has ids q
  pub list : once ≡ firsts ids

firsts_push : (ids : List ObjectId) (id : ObjectId) → firsts (ids ++ id ∷ []) ≡ cond (has ids id) (firsts ids) (firsts ids ++ id ∷ [])
firsts_push [] id = refl
firsts_push (x ∷ ids) id =
    ap (λ (l : List ObjectId). x ∷ filter (λ other. not (eq_by_cmp id_cmp other x)) l) (firsts_push ids id) ∙ cases (eq_by_cmp id_cmp id x) (has ids id) refl
  where
    kept : ObjectId → Bool
    kept other = not (eq_by_cmp id_cmp other x)

    filter_push : (l : List ObjectId) (b : Bool) → eq_by_cmp id_cmp id x ≡ b → filter (λ other. not (eq_by_cmp id_cmp other x)) (l ++ id ∷ []) ≡ cond b (filter (λ other. not (eq_by_cmp id_cmp other x)) l) (filter (λ other. not (eq_by_cmp id_cmp other x)) l ++ id ∷ [])
    filter_push [] true e = ap (λ b. cond (not b) (id ∷ []) []) e
    filter_push [] false e = ap (λ b. cond (not b) (id ∷ []) []) e
    filter_push (y ∷ l) b e = front (not (eq_by_cmp id_cmp y x)) b (filter_push l b e)
      where
        front : (k b : Bool) {r : List ObjectId} → r ≡ cond b (filter (λ other. not (eq_by_cmp id_cmp other x)) l) (filter (λ other. not (eq_by_cmp id_cmp other x)) l ++ id ∷ [])
            → cond k (y ∷ r) r ≡ cond b (cond k (y ∷ filter (λ other. not (eq_by_cmp id_cmp other x)) l) (filter (λ other. not (eq_by_cmp id_cmp other x)) l)) (cond k (y ∷ filter (λ other. not (eq_by_cmp id_cmp other x)) l) (filter (λ other. not (eq_by_cmp id_cmp other x)) l) ++ id ∷ [])
        front true true h = ap (λ (m : List ObjectId). y ∷ m) h
        front true false h = ap (λ (m : List ObjectId). y ∷ m) h
        front false true h = h
        front false false h = h

    cases : (b h : Bool) → eq_by_cmp id_cmp id x ≡ b
        → x ∷ filter (λ other. not (eq_by_cmp id_cmp other x)) (cond h (firsts ids) (firsts ids ++ id ∷ [])) ≡ cond (b || h) (firsts (x ∷ ids)) (firsts (x ∷ ids) ++ id ∷ [])
    cases true true e = refl
    cases true false e = ap (λ (m : List ObjectId). x ∷ m) (filter_push (firsts ids) true e)
    cases false true e = refl
    cases false false e = ap (λ (m : List ObjectId). x ∷ m) (filter_push (firsts ids) false e)

pub grown : (ids : List ObjectId) (i : ℕ) (d id : ObjectId) → i < length ids → id ≡ get_or ids i d → take (i + 1) ids ≡ take i ids ++ id ∷ []
grown ids i d id lt is = take_more ids i d lt ∙ ap (λ x. take i ids ++ x ∷ []) (sym is)

same_id : (a b : ObjectId) → eq_by_cmp id_cmp a b ≡ true → a ≡ b
same_id a b is = id_cmp_exact a b ((Equal-is (id_cmp a b)).0 is)

one_more : (ids once : List ObjectId) (id : ObjectId) → IsOnce ids once → IsOnce (ids ++ id ∷ []) (cond (has once id) once (once ++ id ∷ []))
one_more ids once id h = record {
  members = λ q. by (has once id) refl q (eq_by_cmp id_cmp q id) refl ∙ ap (λ b. eq_by_cmp id_cmp q id || b) (h.members q) ∙ sym (has_push ids id q);
  list = ap (λ b. cond b once (once ++ id ∷ [])) (h.members id) ∙ ap (λ l. cond (has ids id) l (l ++ id ∷ [])) h.list ∙ sym (firsts_push ids id);
}
  where
    by : (c : Bool) → has once id ≡ c → (q : ObjectId) (e : Bool) → eq_by_cmp id_cmp q id ≡ e → has (cond c once (once ++ id ∷ [])) q ≡ (eq_by_cmp id_cmp q id || has once q)
    by false new q e is = has_push once id q
    by true known q true is = ap (has once) (same_id q id is) ∙ known ∙ sym (ap (λ b. b || has once q) is)
    by true known q false is = sym (ap (λ b. b || has once q) is)

-- the id at the place was added
pub once_added : (cmp : ObjectId → ObjectId → Ordering) (ids : List ObjectId) (i : ℕ) (d : ObjectId) (once now : List ObjectId) → i < length ids → cmp ≡ id_cmp → IsOnce (take i ids) once
    → now ≡ with_distinct cmp (λ (key : ObjectId). key) once (get_or ids i d) → IsOnce (take (i + 1) ids) now
once_added cmp ids i d once now lt same h added =
    rw (grown ids i d (get_or ids i d) lt refl, added, same) (one_more (take i ids) once (get_or ids i d) h)
