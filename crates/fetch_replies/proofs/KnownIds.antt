-- Ids in a set, and ids that are told once.
use Rattle.std.proofs.Common.{◌≡◌, ℕ, ◌+◌, ◌<◌, Bool, true, false, cond, List, [], ◌∷◌, ◌++◌, take, get_or, length, refl, sym, ap, subst, ◌∙◌}
use Rattle.std.specs.Prelude.{◌||◌}
use Rattle.std.specs.BTreeSet as tree
use Rattle.std.specs.BTreeSet.{BTreeSet}
use Rattle.std.specs.Cmp.{eq_by_cmp_equiv}
use Rattle.std.specs.Ordering.{eq_by_cmp}
use Rattle.std.specs.declared.cmp.Ordering.{Ordering}
use Rattle.std.proofs.lemmas.List.{take_more}
use Rattle.fetch_base.specs.Distinct.{with_distinct}
use Rattle.fetch_base.specs.Id.{id_cmp}
use Rattle.fetch_base.specs.contracts.id.ObjectIdOrd.TheImpl as order
use Rattle.fetch_base.specs.declared.id.ObjectId.{ObjectId}
use Rattle.fetch_base.proofs.Ids.{id_cmp_total}
use Rattle.fetch_base.proofs.Orders.{cmp_is}
use Rattle.fetch_lines.specs.KnownIds.{HasIds, each_behind, each_once, has_id, with_id}

abbrev Ids : Type 0
Ids = BTreeSet ObjectId

pub contains_is : (known : Ids) (id : ObjectId) → tree.contains (order.ghosts).cmp known id ≡ tree.contains id_cmp known id
contains_is known id = ap (λ (cmp : ObjectId → ObjectId → Ordering). tree.contains cmp known id) cmp_is

same_turned : (p q : ObjectId) → eq_by_cmp id_cmp p q ≡ eq_by_cmp id_cmp q p
same_turned = (eq_by_cmp_equiv id_cmp_total).symm

swapped : (a b c : Bool) → (a || (b || c)) ≡ (b || (a || c))
swapped true true c = refl
swapped true false c = refl
swapped false b c = refl

has_push : (ids : List ObjectId) (id q : ObjectId) → has_id q (ids ++ id ∷ []) ≡ (eq_by_cmp id_cmp q id || has_id q ids)
has_push [] id q = refl
has_push (x ∷ ids) id q = ap (λ b. eq_by_cmp id_cmp q x || b) (has_push ids id q) ∙ swapped (eq_by_cmp id_cmp q x) (eq_by_cmp id_cmp q id) (has_id q ids)

cond_or : (b c : Bool) → cond b true c ≡ (b || c)
cond_or true c = refl
cond_or false c = refl

grown : (known now : Ids) (ids : List ObjectId) (id : ObjectId) → HasIds known ids → tree.Updates (order.ghosts).cmp known now id true → HasIds now (ids ++ id ∷ [])
grown known now ids id has updates =
    let by = subst (λ (cmp : ObjectId → ObjectId → Ordering). (q : ObjectId) → tree.contains cmp now q ≡ cond (eq_by_cmp cmp id q) true (tree.contains cmp known q)) cmp_is updates.0 in
    λ q. by q ∙ cond_or (eq_by_cmp id_cmp id q) (tree.contains id_cmp known q) ∙ ap (λ b. b || tree.contains id_cmp known q) (same_turned id q) ∙ ap (λ b. eq_by_cmp id_cmp q id || b) (has q) ∙ sym (has_push ids id q)

pub grown_at : (known now : Ids) (ids : List ObjectId) (i : ℕ) (d : ObjectId) → i < length ids → HasIds known (take i ids) → tree.Updates (order.ghosts).cmp known now (get_or ids i d) true → HasIds now (take (i + 1) ids)
grown_at known now ids i d less has updates = subst (HasIds now) (sym (take_more ids i d less)) (grown known now (take i ids) (get_or ids i d) has updates)

behind_push : (before ids : List ObjectId) (id : ObjectId) → each_behind before (ids ++ id ∷ []) ≡ with_id (each_behind before ids) id
behind_push before [] id = refl
behind_push before (x ∷ ids) id = behind_push (with_id before x) ids id

-- the id at this place was added
pub once_at : (cmp : ObjectId → ObjectId → Ordering) (once now ids : List ObjectId) (i : ℕ) (d : ObjectId) → cmp ≡ id_cmp → i < length ids → once ≡ each_once (take i ids) → now ≡ with_distinct cmp (λ (key : ObjectId). key) once (get_or ids i d)
    → now ≡ each_once (take (i + 1) ids)
once_at cmp once now ids i d same less so_far added =
    added ∙ ap (λ (c : ObjectId → ObjectId → Ordering). with_distinct c (λ (key : ObjectId). key) once (get_or ids i d)) same ∙ ap (λ (l : List ObjectId). with_id l (get_or ids i d)) so_far
    ∙ sym (behind_push [] (take i ids) (get_or ids i d)) ∙ ap each_once (sym (take_more ids i d less))
