-- Each edit of an outcome is at the destination of a mapping.
use Rattle.std.proofs.Common.{◌≡◌, ℕ, zero, suc, ◌+◌, ◌<◌, Bool, true, false, cond, List, [], ◌∷◌, length, filter, arith, Option, Some, None, Ok, refl, sym, ap, ◌∙◌}
use Rattle.std.specs.Prelude.{slice_get, is_some}
use Rattle.std.specs.List.{Contains, filter_map, range_with_len}
use Rattle.std.specs.Option.{option_and_then}
use Rattle.std.proofs.lemmas.Option.{slice_get_within}
use Rattle.fetch_specs.specs.Specs.{Spec}
use Rattle.fetch_refs.specs.declared.edit.RefEdit.{RefEdit}
use Rattle.fetch_map.specs.Mappings.{spec_at}
use Rattle.fetch_map.specs.declared.mapping.Mapping.{Mapping}
use Rattle.fetch_serve.proofs.Reached.{keeps}
use Rattle.fetch_update.specs.Accepted.{CarriesOut, EditsCarryOut, HasOneEach, edit_for, is_found}
use Rattle.fetch_update.specs.Outcomes.{outcome_of}
use Rattle.fetch_update.specs.Policy.{Policy}
use Rattle.fetch_update.specs.declared.update.Outcome.{Outcome}
use Rattle.fetch_update.specs.declared.update.Update.{Update}
use Rattle.fetch_update.proofs.Wholes.{edits_carry_out, one_each}
use Rattle.fetch_mirror.proofs.Places.{at_contains, contains_at, from, mapped_at, unmapped}

-- the destination of one of these mappings
pub record IsNamedBy (mappings : List Mapping) (name : List ℕ) : Type 0 where
  pub at : ℕ
  pub mapping : Mapping
  pub there : slice_get mappings at ≡ Some mapping
  pub local : mapping.local ≡ Some name

-- so is the name of each edit
abbrev pub AllNamed : List Mapping → List RefEdit → Type 0
AllNamed ms es = (i : ℕ) (e : RefEdit) → slice_get es i ≡ Some e → IsNamedBy ms e.name

range_at : (start n k : ℕ) → k < n → slice_get (range_with_len start n) k ≡ Some (start + k)
range_at start zero k low = absurd (omega arith)
range_at start (suc n) zero low = ap (λ (m : ℕ). Some m) (omega arith)
range_at start (suc n) (suc k) low = range_at (start + 1) n k (omega arith) ∙ ap (λ (m : ℕ). Some m) (omega arith)

-- what passes a filter passes its test
passes : (test : ℕ → Bool) (xs : List ℕ) (i x : ℕ) → slice_get (filter test xs) i ≡ Some x → test x ≡ true
passes test [] i x at = absurd cc
passes test (z ∷ xs) i x at = by (test z) refl i (λ k is. passes test xs k x is) at
  where
    by : (b : Bool) → test z ≡ b → (i : ℕ) → ((k : ℕ) → slice_get (filter test xs) k ≡ Some x → test x ≡ true) → slice_get (cond b (z ∷ filter test xs) (filter test xs)) i ≡ Some x → test x ≡ true
    by true is zero more at = let same : z ≡ x = cc in ap test (sym same) ∙ is
    by true is (suc i) more at = more i at
    by false is i more at = more i at

there_found : (specs extra : List Spec) (o : Option Mapping) → is_some (option_and_then (λ (m : Mapping). spec_at m.spec_index specs extra) o) ≡ true → (m : Mapping) × (o ≡ Some m)
there_found specs extra (Some m) is = (m, refl)
there_found specs extra None is = absurd cc

module _ (p : Policy) (specs extra : List Spec) (ms : List Mapping) (o : Outcome) (out : outcome_of p specs extra ms ≡ Ok o) where
  carried : EditsCarryOut p ms o
  carried = edits_carry_out p specs extra ms o out

  found_each : HasOneEach specs extra ms o
  found_each = one_each p specs extra ms o out

  -- an edit carries out an update about this mapping
  pub record IsCarried (e : RefEdit) : Type 0 where
    pub update : Update
    pub among : Contains o.updates update
    pub mapping : Mapping
    pub there : slice_get ms update.mapping_index ≡ Some mapping
    pub edit : edit_for o.edits update ≡ Some e

  -- the update that an edit carries out, and its mapping
  pub carried_out : (i : ℕ) (e : RefEdit) → slice_get o.edits i ≡ Some e → IsCarried e
  carried_out i e at =
      let low = slice_get_within o.edits i e at in
      let index : slice_get (filter_map (λ (u : Update). u.edit_index) o.updates) i ≡ Some i = ap (λ (l : List ℕ). slice_get l i) carried.one_each ∙ range_at 0 (length o.edits) i low ∙ ap (λ (m : ℕ). Some m) (omega arith) in
      let u = from (λ (u : Update). u.edit_index) o.updates i i index in
      let place = at_contains o.updates u.x u.among in
      let mapped = mapped_at (λ (u : Update). u.mapping_index) o.updates place.0 u.x place.1 in
      let found = passes (is_found specs extra ms) (range_with_len 0 (length ms)) place.0 u.x.mapping_index (ap (λ (l : List ℕ). slice_get l place.0) (sym found_each) ∙ mapped) in
      let m = there_found specs extra (slice_get ms u.x.mapping_index) found in
      record { update = u.x; among = u.among; mapping = m.0; there = m.1; edit = ap (option_and_then (λ (k : ℕ). slice_get o.edits k)) u.is ∙ at }

  pub carries_out : (e : RefEdit) (c : IsCarried e) → CarriesOut p c.mapping c.update e
  carries_out e c = carried.each c.update c.mapping e c.among c.there c.edit

  named_by : (i : ℕ) (e : RefEdit) → slice_get o.edits i ≡ Some e → IsNamedBy ms e.name
  named_by i e at =
      let c = carried_out i e at in
      record { at = c.update.mapping_index; mapping = c.mapping; there = c.there; local = (carries_out e c).destination }

  -- a mapping whose refspec is found has an update
  pub record HasUpdate (index : ℕ) : Type 0 where
    pub update : Update
    pub among : Contains o.updates update
    pub about : update.mapping_index ≡ index

  pub has_update : (index : ℕ) → index < length ms → is_found specs extra ms index ≡ true → HasUpdate index
  has_update index low found =
      let range = range_with_len 0 (length ms) in
      let there : Contains range index = contains_at range index index (range_at 0 (length ms) index low ∙ ap (λ (m : ℕ). Some m) (omega arith)) in
      let kept = at_contains (filter (is_found specs extra ms) range) index (keeps (is_found specs extra ms) index range there found) in
      let u = unmapped (λ (u : Update). u.mapping_index) o.updates kept.0 index (ap (λ (l : List ℕ). slice_get l kept.0) found_each ∙ kept.1) in
      record { update = u.0; among = contains_at o.updates kept.0 u.0 u.1; about = u.2 }

-- each edit of an outcome is at the destination of a mapping
pub outcome_so : (p : Policy) (specs extra : List Spec) (ms : List Mapping) (o : Outcome) → outcome_of p specs extra ms ≡ Ok o → AllNamed ms o.edits
outcome_so p specs extra ms o out = named_by p specs extra ms o out
