-- An index of what came earlier in a list, after what is stored.
use Rattle.std.proofs.Common.{◌≡◌, ℕ, ◌+◌, ◌<◌, Bool, true, false, cond, [], ◌∷◌, ◌++◌, length, get_or, take, Option, Some, None, Bor, refl, sym, ap, subst, ◌∙◌}
use Rattle.std.specs.Prelude.{is_some}
use Rattle.std.specs.Option.{option_copied}
use Rattle.std.specs.BTreeMap as tree
use Rattle.std.specs.BTreeMap.{BTreeMap}
use Rattle.std.specs.Ordering.{eq_by_cmp}
use Rattle.std.specs.Cmp.{Equal-is}
use Rattle.std.specs.FinMap.{find}
use Rattle.std.specs.declared.cmp.Ordering.{Ordering}
use Rattle.std.proofs.lemmas.List.{take_more}
use Rattle.fetch_base.specs.declared.id.ObjectId.{ObjectId}
use Rattle.fetch_base.specs.contracts.id.ObjectIdOrd.TheImpl as order
use Rattle.fetch_objects.specs.Objects.{Stored}
use Rattle.fetch_store.specs.Stores.{Entries, first_some}
use Rattle.fetch_base.specs.Id.{id_cmp}
use Rattle.fetch_base.proofs.Ids.{id_cmp_exact}
use Rattle.fetch_store.proofs.Additions.{last_none}
use Rattle.fetch_store.proofs.Finds.{ties, not_tied}
use Rattle.fetch_base.proofs.Orders.{cmp_is}

abbrev pub Index : Type 0
Index = BTreeMap ObjectId (Bor Stored)

abbrev pub held : Entries → Index → ObjectId → Option Stored
held stored index q = first_some (find id_cmp q stored) (option_copied (tree.get id_cmp index q))

abbrev pub walked : Entries → Entries → ObjectId → Option Stored
walked stored es q = first_some (find id_cmp q stored) (find id_cmp q es)

-- at each id the index and the list have the same, where the store has nothing
pub record Indexes (stored es : Entries) (index : Index) : Type 0 where
  pub each : (q : ObjectId) → held stored index q ≡ walked stored es q

abbrev pub here : (q : ObjectId) (e : ObjectId × Stored) → Option Stored
here q e = cond (eq_by_cmp id_cmp q e.0) (Some e.1) None

pushed : (b : Bool) (x : Stored) (more rest end : Option Stored) → more ≡ first_some rest end → cond b (Some x) more ≡ first_some (cond b (Some x) rest) end
pushed true x more rest end is = refl
pushed false x more rest end is = is

find-push : (q : ObjectId) (es : Entries) (e : ObjectId × Stored) → find id_cmp q (es ++ e ∷ []) ≡ first_some (find id_cmp q es) (here q e)
find-push q [] e = refl
find-push q (x ∷ es) e = pushed (eq_by_cmp id_cmp q x.0) x.1 (find id_cmp q (es ++ e ∷ [])) (find id_cmp q es) (here q e) (find-push q es e)

regroup : (a b c : Option Stored) → first_some a (first_some b c) ≡ first_some (first_some a b) c
regroup None b c = refl
regroup (Some x) b c = refl

pub walked-push : (stored es : Entries) (e : ObjectId × Stored) (q : ObjectId) → walked stored (es ++ e ∷ []) q ≡ first_some (walked stored es q) (here q e)
walked-push stored es e q = ap (first_some (find id_cmp q stored)) (find-push q es e) ∙ regroup (find id_cmp q stored) (find id_cmp q es) (here q e)

pub stays : (a b : Option Stored) → is_some a ≡ true → a ≡ first_some a b
stays None b is = absurd cc
stays (Some x) b is = refl

empty : (a : Option Stored) → is_some a ≡ false → a ≡ None
empty None is = refl
empty (Some x) is = absurd cc

nothing : (a b : Option Stored) → first_some a b ≡ None → a ≡ None
nothing None b is = refl
nothing (Some x) b is = absurd cc

-- an entry of another id is passed over
passed : (stored es : Entries) (e : ObjectId × Stored) (q : ObjectId) → eq_by_cmp id_cmp q e.0 ≡ false → walked stored es q ≡ walked stored (es ++ e ∷ []) q
passed stored es e q other =
    last_none (walked stored es q) ∙ sym (walked-push stored es e q ∙ ap (λ b. first_some (walked stored es q) (cond b (Some e.1) None)) other)

-- one entry more, of an id that is known
pub known_stays : (stored es : Entries) (index : Index) (e : ObjectId × Stored) → Indexes stored es index → is_some (held stored index e.0) ≡ true → Indexes stored (es ++ e ∷ []) index
known_stays stored es index e before known = record { each = λ q. before.each q ∙ by_test q (eq_by_cmp id_cmp q e.0) refl }
  where
    by_test : (q : ObjectId) (b : Bool) → eq_by_cmp id_cmp q e.0 ≡ b → walked stored es q ≡ walked stored (es ++ e ∷ []) q
    by_test q false other = passed stored es e q other
    by_test q true tied =
        let same : q ≡ e.0 = id_cmp_exact q e.0 ((Equal-is (id_cmp q e.0)).0 tied) in
        let some : is_some (walked stored es q) ≡ true = ap is_some (ap (walked stored es) same ∙ sym (before.each e.0)) ∙ known in
        stays (walked stored es q) (here q e) some ∙ sym (walked-push stored es e q)

abbrev Gains : (ObjectId → ObjectId → Ordering) → Index → Index → ObjectId → Bor Stored → Type 0
Gains cmp s t id v = (q : ObjectId) → tree.get cmp t q ≡ cond (eq_by_cmp cmp id q) (Some v) (tree.get cmp s q)

-- one entry more, of a new id
pub new_indexed : (stored es : Entries) (s t : Index) (e : ObjectId × Stored) (v : Bor Stored) → Indexes stored es s → is_some (held stored s e.0) ≡ false → v.now ≡ e.1
    → tree.Updates (order.ghosts).cmp s t e.0 (Some v) → Indexes stored (es ++ e ∷ []) t
new_indexed stored es s t e v before new is updates = record { each = λ q. by_test q (eq_by_cmp id_cmp e.0 q) refl }
  where
    by : Gains id_cmp s t e.0 v
    by = subst (λ (cmp : ObjectId → ObjectId → Ordering). Gains cmp s t e.0 v) cmp_is updates.0

    there : (q : ObjectId) (b : Bool) → eq_by_cmp id_cmp e.0 q ≡ b → held stored t q ≡ first_some (find id_cmp q stored) (option_copied (cond b (Some v) (tree.get id_cmp s q)))
    there q b is = ap (λ (o : Option (Bor Stored)). first_some (find id_cmp q stored) (option_copied o)) (by q ∙ ap (λ b. cond b (Some v) (tree.get id_cmp s q)) is)

    by_test : (q : ObjectId) (b : Bool) → eq_by_cmp id_cmp e.0 q ≡ b → held stored t q ≡ walked stored (es ++ e ∷ []) q
    by_test q false other =
        let apart : eq_by_cmp id_cmp q e.0 ≡ false = not_tied q e.0 (λ same. cc (sym other ∙ ties e.0 q (sym same))) in
        there q false other ∙ before.each q ∙ passed stored es e q apart
    by_test q true tied =
        let same : e.0 ≡ q = id_cmp_exact e.0 q ((Equal-is (id_cmp e.0 q)).0 tied) in
        let none : held stored s q ≡ None = ap (held stored s) (sym same) ∙ empty (held stored s e.0) new in
        let first : held stored t q ≡ Some e.1 = there q true tied ∙ ap (λ o. first_some o (Some v.now)) (nothing (find id_cmp q stored) (option_copied (tree.get id_cmp s q)) none) ∙ ap Some is in
        let last : walked stored (es ++ e ∷ []) q ≡ Some e.1 =
        walked-push stored es e q ∙ ap (λ o. first_some o (here q e)) (sym (before.each q) ∙ none) ∙ ap (λ b. cond b (Some e.1) None) (ties q e.0 (sym same)) in
        first ∙ sym last

-- the entries up to one, and it
pub taken_more : (es : Entries) (i : ℕ) (e : ObjectId × Stored) → i < length es → e ≡ get_or es i e → take i es ++ e ∷ [] ≡ take (i + 1) es
taken_more es i e lt is = ap (λ (x : ObjectId × Stored). take i es ++ x ∷ []) is ∙ sym (take_more es i e lt)
