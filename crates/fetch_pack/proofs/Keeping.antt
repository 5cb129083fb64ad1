-- Keeping objects one after the other, as a loop does, with the place of each id.
use Rattle.std.proofs.Common.{◌≡◌, ℕ, suc, ◌+◌, ◌<◌, Bool, true, false, cond, not, ◌||◌, List, [], ◌∷◌, ◌++◌, length, get_or, take, drop, drop-cons, add-one, Option, Some, None, Result, Ok, Err, refl, sym, ap, subst, ◌∙◌, arith}
use Rattle.std.specs.Prelude.{is_some}
use Rattle.std.specs.BTreeMap as tree
use Rattle.std.specs.BTreeMap.{BTreeMap}
use Rattle.std.specs.Ordering.{eq_by_cmp}
use Rattle.std.specs.Cmp.{Equal-is}
use Rattle.std.specs.FinMap.{find}
use Rattle.std.specs.declared.cmp.Ordering.{Ordering}
use Rattle.std.proofs.lemmas.List.{append-nil, append_assoc, length-append, get_or_append_left}
use Rattle.std.proofs.Math.Seq.{get_or-append_seam, take-append_seam}
use Rattle.fetch_base.specs.declared.id.ObjectId.{ObjectId}
use Rattle.fetch_base.specs.contracts.id.ObjectIdOrd.TheImpl as order
use Rattle.fetch_objects.specs.Objects.{Stored, has_same_text}
use Rattle.fetch_store.specs.Collisions.{HasDistinctIds}
use Rattle.fetch_store.specs.Stores.{Entries, ObjectMap, map_of, add, clashes, collision}
use Rattle.fetch_base.specs.Id.{id_cmp}
use Rattle.fetch_base.proofs.Ids.{id_cmp_exact}
use Rattle.fetch_store.proofs.Additions.{map_of-push, add-known}
use Rattle.fetch_store.proofs.Apart.{first_time}
use Rattle.fetch_store.proofs.Finds.{ties, not_tied, get-map_of}
use Rattle.fetch_base.proofs.Orders.{cmp_is}
use Rattle.fetch_pack.specs.declared.error.PackError.{PackError}
use Rattle.fetch_pack.specs.declared.error.PackError.TheVariants.{Collision}
use Rattle.fetch_pack.specs.Reading.{is_id, once_from, paired, unless}
use Rattle.fetch_pack.specs.Places.{IsPlace, ArePlaces}
use Rattle.fetch_pack.proofs.Once.{has}

abbrev Entry : Type 0
Entry = ObjectId × Stored

abbrev pub Answer : Type 0
Answer = Result Entries PackError

-- what becomes of the entries that are left, after some were kept
abbrev pub going : Entries → Entries → Answer
going kept es = unless (once_from kept es) (collision (map_of kept) es)

-- ---- ids beside objects

pub paired_step : (ids : List ObjectId) (i : ℕ) (id d : ObjectId) (o : Stored) (os : List Stored) → i < length ids → id ≡ get_or ids i d → paired (drop i ids) (o ∷ os) ≡ (id, o) ∷ paired (drop (i + 1) ids) os
paired_step ids i id d o os lt is =
    let from : drop i ids ≡ id ∷ drop (i + 1) ids = rw (add-one) (drop-cons ids i d lt ∙ ap (λ (x : ObjectId). x ∷ drop (suc i) ids) (sym is)) in
    ap (λ (xs : List ObjectId). paired xs (o ∷ os)) from

pub paired_none : (ids : List ObjectId) → paired ids [] ≡ []
paired_none [] = refl
paired_none (id ∷ ids) = refl

-- ---- one entry more

is_some-cond : (b : Bool) (x : Stored) (o : Option Stored) → is_some (cond b (Some x) o) ≡ (b || is_some o)
is_some-cond true x o = refl
is_some-cond false x o = refl

-- an id is found where it stands
found-has : (id : ObjectId) (es : Entries) → is_some (find id_cmp id es) ≡ has id es
found-has id [] = refl
found-has id (e ∷ es) = is_some-cond (is_id id e.0) e.1 (find id_cmp id es) ∙ ap (λ (b : Bool). is_id id e.0 || b) (found-has id es)

known_step : (kept : Entries) (e : Entry) (rest : Entries) (other : Stored) (same : Bool) → find id_cmp e.0 kept ≡ Some other → has_same_text other e.1 ≡ same
    → going kept (e ∷ rest) ≡ cond same (going kept rest) (Err (Collision e.0))
known_step kept e rest other same found told =
    let known : is_some (find id_cmp e.0 kept) ≡ true = ap is_some found in
    let stays : has e.0 kept ≡ true = sym (found-has e.0 kept) ∙ known in
    ap (λ (b : Bool). unless (once_from (cond b kept (kept ++ e ∷ [])) rest) (collision (map_of kept) (e ∷ rest))) stays
    ∙ ap (λ (o : Option Stored). unless (once_from kept rest) (cond (clashes o e.1) (Some e.0) (collision (add (map_of kept) e) rest))) (get-map_of kept e.0 ∙ found)
    ∙ ap (λ (m : ObjectMap). unless (once_from kept rest) (cond (not (has_same_text other e.1)) (Some e.0) (collision m rest))) (add-known kept e known)
    ∙ ap (λ (b : Bool). unless (once_from kept rest) (cond (not b) (Some e.0) (collision (map_of kept) rest))) told
    ∙ by_test same
  where
    by_test : (b : Bool) → unless (once_from kept rest) (cond (not b) (Some e.0) (collision (map_of kept) rest)) ≡ cond b (going kept rest) (Err (Collision e.0))
    by_test true = refl
    by_test false = refl

pub stays_known : (kept : Entries) (e : Entry) (rest : Entries) (other : Stored) (total : Answer) → find id_cmp e.0 kept ≡ Some other → has_same_text other e.1 ≡ true → going kept (e ∷ rest) ≡ total → going kept rest ≡ total
stays_known kept e rest other total found told so_far = sym (known_step kept e rest other true found told) ∙ so_far

pub collides : (kept : Entries) (e : Entry) (rest : Entries) (other : Stored) (total : Answer) → find id_cmp e.0 kept ≡ Some other → has_same_text other e.1 ≡ false → going kept (e ∷ rest) ≡ total → total ≡ Err (Collision e.0)
collides kept e rest other total found told so_far = sym so_far ∙ known_step kept e rest other false found told

pub is_new : (kept : Entries) (e : Entry) (rest : Entries) (total : Answer) → find id_cmp e.0 kept ≡ None → going kept (e ∷ rest) ≡ total → going (kept ++ e ∷ []) rest ≡ total
is_new kept e rest total none so_far =
    let new : is_some (find id_cmp e.0 kept) ≡ false = ap is_some none in
    let absent : has e.0 kept ≡ false = sym (found-has e.0 kept) ∙ new in
    let step : going kept (e ∷ rest) ≡ going (kept ++ e ∷ []) rest =
    ap (λ (b : Bool). unless (once_from (cond b kept (kept ++ e ∷ [])) rest) (collision (map_of kept) (e ∷ rest))) absent
    ∙ ap (λ (o : Option Stored). unless (once_from (kept ++ e ∷ []) rest) (cond (clashes o e.1) (Some e.0) (collision (add (map_of kept) e) rest))) (get-map_of kept e.0 ∙ none)
    ∙ ap (λ (m : ObjectMap). unless (once_from (kept ++ e ∷ []) rest) (collision m rest)) (sym (map_of-push kept e new)) in
    sym step ∙ so_far

-- where no id comes twice, all is kept
pub all_new : (kept es : Entries) → HasDistinctIds (kept ++ es) → going kept es ≡ Ok (kept ++ es)
all_new kept [] apart = ap Ok (sym (append-nil kept))
all_new kept (e ∷ es) apart =
    let regrouped : (kept ++ e ∷ []) ++ es ≡ kept ++ e ∷ es = append_assoc kept (e ∷ []) es in
    let first : find id_cmp e.0 (take (length kept) (kept ++ e ∷ es)) ≡ None =
    first_time (kept ++ e ∷ es) (length kept) e apart (omega (arith, length-append kept (e ∷ es))) (sym (get_or-append_seam kept e es e)) in
    let none : find id_cmp e.0 kept ≡ None = ap (find id_cmp e.0) (sym (take-append_seam kept (e ∷ es))) ∙ first in
    sym (is_new kept e es (going kept (e ∷ es)) none refl) ∙ all_new (kept ++ e ∷ []) es (subst HasDistinctIds (sym regrouped) apart) ∙ ap Ok regrouped

-- ---- places

abbrev or_else : Option Stored → Option Stored → Option Stored
or_else None other = other
or_else (Some x) other = Some x

or_else-cond : (b : Bool) (x : Stored) (o end : Option Stored) → cond b (Some x) (or_else o end) ≡ or_else (cond b (Some x) o) end
or_else-cond true x o end = refl
or_else-cond false x o end = refl

find-push : (q : ObjectId) (es : Entries) (e : Entry) → find id_cmp q (es ++ e ∷ []) ≡ or_else (find id_cmp q es) (cond (is_id q e.0) (Some e.1) None)
find-push q [] e = refl
find-push q (x ∷ es) e = ap (λ (o : Option Stored). cond (is_id q x.0) (Some x.1) o) (find-push q es e) ∙ or_else-cond (is_id q x.0) x.1 (find id_cmp q es) (cond (is_id q e.0) (Some e.1) None)

-- another id keeps its place
still : (kept : Entries) (e : Entry) (q : ObjectId) (o : Option ℕ) → is_id q e.0 ≡ false → IsPlace kept q o → IsPlace (kept ++ e ∷ []) q o
still kept e q None other is = find-push q kept e ∙ ap (λ (x : Option Stored). or_else x (cond (is_id q e.0) (Some e.1) None)) is ∙ ap (λ (b : Bool). cond b (Some e.1) None) other
still kept e q (Some place) other is = (
  omega (arith, is.0, length-append kept (e ∷ [])),
  λ d. find-push q kept e ∙ ap (λ (x : Option Stored). or_else x (cond (is_id q e.0) (Some e.1) None)) (is.1 d) ∙ ap (λ (x : Entry). Some x.1) (sym (get_or_append_left kept (e ∷ []) d place is.0)),
)

last : (es : Entries) (x d : Entry) → get_or (es ++ x ∷ []) (length es) d ≡ x
last [] x d = refl
last (y ∷ es) x d = last es x d

abbrev Gains : (ObjectId → ObjectId → Ordering) → BTreeMap ObjectId ℕ → BTreeMap ObjectId ℕ → ObjectId → ℕ → Type 0
Gains cmp s t id n = (q : ObjectId) → tree.get cmp t q ≡ cond (eq_by_cmp cmp id q) (Some n) (tree.get cmp s q)

pub new_place : (kept : Entries) (s t : BTreeMap ObjectId ℕ) (e : Entry) → ArePlaces kept s → find id_cmp e.0 kept ≡ None → tree.Updates (order.ghosts).cmp s t e.0 (Some (length kept)) → ArePlaces (kept ++ e ∷ []) t
new_place kept s t e before none updates q = by_test (eq_by_cmp id_cmp e.0 q) refl
  where
    by : Gains id_cmp s t e.0 (length kept)
    by = subst (λ (cmp : ObjectId → ObjectId → Ordering). Gains cmp s t e.0 (length kept)) cmp_is updates.0

    by_test : (b : Bool) → eq_by_cmp id_cmp e.0 q ≡ b → IsPlace (kept ++ e ∷ []) q (tree.get id_cmp t q)
    by_test false other =
        let apart : is_id q e.0 ≡ false = not_tied q e.0 (λ same. cc (sym other ∙ ties e.0 q (sym same))) in
        subst (IsPlace (kept ++ e ∷ []) q) (sym (by q ∙ ap (λ (b : Bool). cond b (Some (length kept)) (tree.get id_cmp s q)) other)) (still kept e q (tree.get id_cmp s q) apart (before q))
    by_test true tied =
        let same : e.0 ≡ q = id_cmp_exact e.0 q ((Equal-is (id_cmp e.0 q)).0 tied) in
        let absent : find id_cmp q kept ≡ None = ap (λ (id : ObjectId). find id_cmp id kept) (sym same) ∙ none in
        let found : find id_cmp q (kept ++ e ∷ []) ≡ Some e.1 =
        find-push q kept e ∙ ap (λ (x : Option Stored). or_else x (cond (is_id q e.0) (Some e.1) None)) absent ∙ ap (λ (b : Bool). cond b (Some e.1) None) (ties q e.0 (sym same)) in
        let here : IsPlace (kept ++ e ∷ []) q (Some (length kept)) = (
          omega (arith, length-append kept (e ∷ [])),
          λ d. found ∙ ap (λ (x : Entry). Some x.1) (sym (last kept e d)),
        ) in
        subst (IsPlace (kept ++ e ∷ []) q) (sym (by q ∙ ap (λ (b : Bool). cond b (Some (length kept)) (tree.get id_cmp s q)) tied)) here

pub no_places : (s : BTreeMap ObjectId ℕ) → ((q : ObjectId) → tree.get id_cmp s q ≡ None) → ArePlaces [] s
no_places s none q = subst (IsPlace [] q) (sym (none q)) refl
