-- Why events are refused.
use Rattle.std.proofs.Common.{◌≡◌, ℕ, Bool, true, false, cond, List, [], ◌∷◌, length, get_or, Option, None, Some, option_map, refl, sym, ap, ◌∙◌, arith}
use Rattle.std.specs.Prelude.{find, position, slice_get, nat_lt}
use Rattle.std.specs.FinMap as fin
use Rattle.std.specs.List.{position_or_len}
use Rattle.std.specs.Option.{option_or}
use Rattle.std.proofs.lemmas.Bool.{ltb-false, ltb-true}
use Rattle.std.proofs.lemmas.List.Folds.{find_at}
use Rattle.std.proofs.lemmas.Option.{slice_get-get_or, slice_get_past}
use Rattle.fetch_base.specs.declared.id.ObjectId.{ObjectId}
use Rattle.fetch_store.specs.declared.missing.Missing.{Missing}
use Rattle.fetch_store.specs.Closed.{Holding}
use Rattle.fetch_store.specs.Honest.{Pack}
use Rattle.fetch_store.specs.Missing.{missing}
use Rattle.fetch_store.specs.Stores.{collision}
use Rattle.fetch_refs.specs.declared.edit.RefEdit.{RefEdit}
use Rattle.fetch_refs.specs.declared.error.RefError.TheVariants.{Expectation}
use Rattle.fetch_refs.specs.Expectations.{fails, found_by, refusal_of}
use Rattle.fetch_refs.specs.Names.{Names}
use Rattle.fetch_journal.specs.declared.error.SharedError.{SharedError}
use Rattle.fetch_journal.specs.declared.error.SharedError.TheVariants.{Collision, Disconnected, EditReferences}
use Rattle.fetch_journal.specs.Machine.{take_refusal, commit_refusal}

pub no_first : {X : Type 0} (xs : List X) → slice_get xs 0 ≡ None → xs ≡ []
no_first [] is = refl
no_first (x ∷ xs) is =
    let there : slice_get (x ∷ xs) 0 ≡ Some (get_or (x ∷ xs) 0 x) = slice_get-get_or (x ∷ xs) 0 x (omega arith) in
    absurd cc

module _ where
  abbrev of : Option ObjectId → Option Missing → Option SharedError
  of c m = option_or (option_map Collision c) (option_map Disconnected m)

  neither : (c : Option ObjectId) (m : Option Missing) → of c m ≡ None → (c ≡ None) × (m ≡ None)
  neither None None is = (refl, refl)
  neither None (Some x) is = absurd cc
  neither (Some x) m is = absurd cc

  collides : (c : Option ObjectId) (m : Option Missing) (id : ObjectId) → of c m ≡ Some (Collision id) → c ≡ Some id
  collides None None id is = absurd cc
  collides None (Some x) id is = absurd cc
  collides (Some x) m id is = cc

  lacks : (c : Option ObjectId) (m : Option Missing) (link : Missing) → of c m ≡ Some (Disconnected link) → (c ≡ None) × (m ≡ Some link)
  lacks None None link is = absurd cc
  lacks None (Some x) link is = (refl, cc)
  lacks (Some x) m link is = absurd cc

pub allowed_take : (h : Holding) (wants : List ObjectId) (pack : Pack) → take_refusal h wants pack ≡ None → (collision h.objects pack.objects ≡ None) × (missing h wants pack ≡ [])
allowed_take h wants pack ok =
    let both = neither (collision h.objects pack.objects) (slice_get (missing h wants pack) 0) ok in
    (both.0, no_first (missing h wants pack) both.1)

pub take_allowed : (h : Holding) (wants : List ObjectId) (pack : Pack) → collision h.objects pack.objects ≡ None → missing h wants pack ≡ [] → take_refusal h wants pack ≡ None
take_allowed h wants pack none whole =
    ap (λ c. option_or (option_map Collision c) (option_map Disconnected (slice_get (missing h wants pack) 0))) none ∙ ap (λ l. option_map Disconnected (slice_get l 0)) whole

pub collided : (h : Holding) (wants : List ObjectId) (pack : Pack) (id : ObjectId) → take_refusal h wants pack ≡ Some (Collision id) → collision h.objects pack.objects ≡ Some id
collided h wants pack id is = collides (collision h.objects pack.objects) (slice_get (missing h wants pack) 0) id is

pub disconnected : (h : Holding) (wants : List ObjectId) (pack : Pack) (link : Missing) → take_refusal h wants pack ≡ Some (Disconnected link)
    → (collision h.objects pack.objects ≡ None) × (slice_get (missing h wants pack) 0 ≡ Some link)
disconnected h wants pack link is = lacks (collision h.objects pack.objects) (slice_get (missing h wants pack) 0) link is

pub collision_told : (h : Holding) (wants : List ObjectId) (pack : Pack) (id : ObjectId) → collision h.objects pack.objects ≡ Some id → take_refusal h wants pack ≡ Some (Collision id)
collision_told h wants pack id is = ap (λ c. option_or (option_map Collision c) (option_map Disconnected (slice_get (missing h wants pack) 0))) is

pub missing_told : (h : Holding) (wants : List ObjectId) (pack : Pack) (link : Missing) → collision h.objects pack.objects ≡ None → slice_get (missing h wants pack) 0 ≡ Some link → take_refusal h wants pack ≡ Some (Disconnected link)
missing_told h wants pack link none is = ap (λ c. option_or (option_map Collision c) (option_map Disconnected (slice_get (missing h wants pack) 0))) none ∙ ap (λ m. option_map Disconnected m) is

-- the first that passes, by its place
module _ {X : Type 0} (p : X → Bool) where
  placed : (b : Bool) (n i : ℕ) → cond b (Some n) None ≡ Some i → n ≡ i
  placed true n i is = cc
  placed false n i is = absurd cc

  pub find_at_place : (xs : List X) (i : ℕ) → position p xs ≡ Some i → find p xs ≡ slice_get xs i
  find_at_place xs i is = find_at p xs ∙ ap (slice_get xs) (placed (nat_lt (position_or_len p xs) (length xs)) (position_or_len p xs) i is)

  none_past : (xs : List X) (b : Bool) → nat_lt (position_or_len p xs) (length xs) ≡ b → cond b (Some (position_or_len p xs)) None ≡ None → slice_get xs (position_or_len p xs) ≡ None
  none_past xs true lt is = absurd cc
  none_past xs false lt is = slice_get_past xs (position_or_len p xs) (ltb-false (position_or_len p xs) (length xs) lt)

  pub none_placed : (xs : List X) → position p xs ≡ None → find p xs ≡ None
  none_placed xs is = find_at p xs ∙ none_past xs (nat_lt (position_or_len p xs) (length xs)) refl is

  past_none : (xs : List X) (b : Bool) → nat_lt (position_or_len p xs) (length xs) ≡ b → slice_get xs (position_or_len p xs) ≡ None → cond b (Some (position_or_len p xs)) None ≡ None
  past_none xs false lt is = refl
  past_none [] true lt is = absurd cc
  past_none (x ∷ xs) true lt is =
      let there = slice_get-get_or (x ∷ xs) (position_or_len p (x ∷ xs)) x (ltb-true (position_or_len p (x ∷ xs)) (length (x ∷ xs)) lt) in
      absurd cc

  pub none_found : (xs : List X) → find p xs ≡ None → position p xs ≡ None
  none_found xs is = past_none xs (nat_lt (position_or_len p xs) (length xs)) refl (sym (find_at p xs) ∙ is)

none_told : {X Y : Type 0} (f : X → Y) (o : Option X) → option_map f o ≡ None → o ≡ None
none_told f None is = refl
none_told f (Some x) is = absurd cc

-- a commit is allowed exactly where no edit fails
pub commit_met : (names : Names) (edits : List RefEdit) → commit_refusal names edits ≡ None → refusal_of names edits ≡ None
commit_met names edits is =
    ap (option_map (λ i. Expectation i (found_by names (slice_get edits i)))) (none_found (fails names) edits (none_told _ (find (fails names) edits) is))

pub met_commit : (names : Names) (edits : List RefEdit) → refusal_of names edits ≡ None → commit_refusal names edits ≡ None
met_commit names edits is = ap (option_map (λ (e : RefEdit). EditReferences e.name (fin.get names e.name))) (none_placed (fails names) edits (none_told _ (position (fails names) edits) is))
