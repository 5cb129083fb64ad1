-- Each id once, where it first comes.
use Rattle.std.proofs.Common.{◌≡◌, ◌≢◌, Bool, true, false, cond, [], ◌∷◌, ◌++◌, refl, sym, ap, ◌∙◌, append_assoc, Contains, ◌||◌, arith}
use Rattle.std.specs.List.{list_any, AllByRecursion}
use Rattle.std.specs.Cmp.{Equal-is, eq_by_cmp_equiv, IsEquivalence}
use Rattle.std.proofs.lemmas.Map.Views.{Contains-from_any, list_any-from_Contains}
use Rattle.std.proofs.lemmas.List.{append-nil}
use Rattle.std.proofs.lemmas.List.Folds.{list_any-append}
use Rattle.std.proofs.lemmas.List.Quantifiers.{all_pairs_push}
use Rattle.std.proofs.lemmas.List.Elements.{All-from_recursion, recursion_from_All, All-contains, All-contains_itself}
use Rattle.fetch_base.specs.declared.id.ObjectId.{ObjectId}
use Rattle.fetch_objects.specs.Objects.{Stored}
use Rattle.fetch_store.specs.Stores.{Entries}
use Rattle.fetch_base.specs.Id.{id_cmp}
use Rattle.fetch_base.proofs.Ids.{id_cmp_total, id_cmp_exact}
use Rattle.fetch_store.proofs.Finds.{ties}
use Rattle.fetch_pack.specs.Reading.{is_id, keep, once_from}
use Rattle.fetch_store.specs.Collisions.{HasDistinctIds}
use Rattle.fetch_pack.specs.Once.{ids_of, KeepsEachOnce}

abbrev Entry : Type 0
Entry = ObjectId × Stored

-- whether an id stands in a list
abbrev pub has : ObjectId → Entries → Bool
has id os = list_any (λ x. is_id id x.0) os

laws : IsEquivalence is_id
laws = eq_by_cmp_equiv id_cmp_total

pub same : (a b : ObjectId) → is_id a b ≡ true → a ≡ b
same a b e = id_cmp_exact a b ((Equal-is (id_cmp a b)).0 e)

neither : (a b : Bool) → (a || b) ≡ false → (a ≡ false) × (b ≡ false)
neither true b e = absurd cc
neither false b e = (refl, e)

or_false : (a : Bool) → a ≡ (a || false)
or_false true = refl
or_false false = refl

regroup : (a b c : Bool) → ((a || (b || false)) || c) ≡ (a || (b || c))
regroup true b c = refl
regroup false true c = refl
regroup false false c = refl

absent : (id : ObjectId) (kept : Entries) → has id kept ≡ false → AllByRecursion (λ x. x.0 ≢ id) kept
absent id [] e = tt
absent id (x ∷ xs) e =
    let n = neither (is_id id x.0) (has id xs) e in
    (λ is. absurd (let t : is_id id x.0 ≡ true = ties id x.0 (sym is) in cc), absent id xs n.1)

-- a step's two cases
by_test : (P : Entries → Type 0) (kept : Entries) (o : Entry) (b : Bool) → (b ≡ true → P kept) → (b ≡ false → P (kept ++ o ∷ [])) → P (cond b kept (kept ++ o ∷ []))
by_test P kept o true t f = t refl
by_test P kept o false t f = f refl

keep-distinct : (kept : Entries) (o : Entry) → HasDistinctIds kept → HasDistinctIds (keep kept o)
keep-distinct kept o all =
    by_test HasDistinctIds kept o (has o.0 kept) (λ _. all)
    (λ new. all_pairs_push (λ a b. a.0 ≢ b.0) kept o all (λ k d lt. All-from_recursion (λ x. x.0 ≢ o.0) kept (absent o.0 kept new) k d lt))

pub once-distinct : (kept os : Entries) → HasDistinctIds kept → HasDistinctIds (once_from kept os)
once-distinct kept [] all = all
once-distinct kept (o ∷ os) all = once-distinct (keep kept o) os (keep-distinct kept o all)

each-push : (P : Entry → Type 0) (xs : Entries) (x : Entry) → AllByRecursion P xs → P x → AllByRecursion P (xs ++ x ∷ [])
each-push P [] x all one = (one, tt)
each-push P (y ∷ ys) x all one = (all.0, each-push P ys x all.1 one)

-- what holds of each entry of a list holds of those that are kept
pub once-each : (P : Entry → Type 0) (kept os : Entries) → AllByRecursion P kept → AllByRecursion P os → AllByRecursion P (once_from kept os)
once-each P kept [] before all = before
once-each P kept (o ∷ os) before all =
    once-each P (keep kept o) os (by_test (λ xs. AllByRecursion P xs) kept o (has o.0 kept) (λ _. before) (λ _. each-push P kept o before all.0)) all.1

pub once-more : (kept os : Entries) → (more : Entries) × (once_from kept os ≡ kept ++ more)
once-more kept [] = ([], sym (append-nil kept))
once-more kept (o ∷ os) =
    by_test (λ xs. (more : Entries) × (once_from xs os ≡ kept ++ more)) kept o (has o.0 kept)
    (λ _. once-more kept os)
    (λ _. let r = once-more (kept ++ o ∷ []) os in (o ∷ r.0, r.1 ∙ append_assoc kept (o ∷ []) r.0))

once-append : (kept a b : Entries) → once_from kept (a ++ b) ≡ once_from (once_from kept a) b
once-append kept [] b = refl
once-append kept (x ∷ a) b = once-append (keep kept x) a b

-- the ids that are kept
known_one : (id : ObjectId) (kept : Entries) (o : Entry) (t : Bool) → has o.0 kept ≡ true → is_id id o.0 ≡ t → has id kept ≡ (has id kept || (t || false))
known_one id kept o true known is =
    let here : has id kept ≡ true = ap (λ (i : ObjectId). has i kept) (same id o.0 is) ∙ known in
    here ∙ sym (ap (λ (b : Bool). b || true) here)
known_one id kept o false known is = or_false (has id kept)

has-keep : (id : ObjectId) (kept : Entries) (o : Entry) → has id (keep kept o) ≡ (has id kept || (is_id id o.0 || false))
has-keep id kept o =
    by_test (λ xs. has id xs ≡ (has id kept || (is_id id o.0 || false))) kept o (has o.0 kept)
    (λ known. known_one id kept o (is_id id o.0) known refl ∙ refl)
    (λ _. list_any-append (λ x. is_id id x.0) kept (o ∷ []))

pub has-once : (id : ObjectId) (kept os : Entries) → has id (once_from kept os) ≡ (has id kept || has id os)
has-once id kept [] = or_false (has id kept)
has-once id kept (o ∷ os) =
    has-once id (keep kept o) os ∙ ap (λ (b : Bool). b || has id os) (has-keep id kept o) ∙ regroup (has id kept) (is_id id o.0) (has id os)

-- one entry more, where it is told whether its id was kept before
pub next_kept : (kept : Entries) (o : Entry) (rest : Entries) (known : Bool) → has o.0 kept ≡ known → once_from kept (o ∷ rest) ≡ once_from (cond known kept (kept ++ o ∷ [])) rest
next_kept kept o rest known is = ap (λ (b : Bool). once_from (cond b kept (kept ++ o ∷ [])) rest) is

-- ---- the whole

has-ids : (id : ObjectId) (os : Entries) → has id os ≡ list_any (is_id id) (ids_of os)
has-ids id [] = refl
has-ids id (o ∷ os) = ap (λ (b : Bool). is_id id o.0 || b) (has-ids id os)

pub keeps_each_once : (os : Entries) → KeepsEachOnce os (once_from [] os)
keeps_each_once os = record {
  distinct = once-distinct [] os (λ i j d lt below. absurd (omega arith));
  entries = λ o in_kept. All-contains (λ x. Contains os x) (once_from [] os) o (All-from_recursion (λ x. Contains os x) (once_from [] os) (once-each (λ x. Contains os x) [] os tt (recursion_from_All (λ x. Contains os x) os (All-contains_itself os)))) in_kept;
  ids = λ id in_ids. Contains-from_any same id (ids_of (once_from [] os)) (sym (has-ids id (once_from [] os)) ∙ has-once id [] os ∙ has-ids id os ∙ list_any-from_Contains laws id (ids_of os) in_ids);
  order = λ before behind is. let r = once-more (once_from [] before) behind in (r.0, ap (once_from []) is ∙ once-append [] before behind ∙ r.1);
}
