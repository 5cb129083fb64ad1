-- Each packed text has an answer.
use Rattle.std.proofs.Common.{◌≡◌, ℕ, zero, suc, ◌-◌, ◌<◌, ◌≤◌, Bool, true, false, ◌⊎◌, inl, inr, List, [], ◌∷◌, ◌++◌, length, Option, Some, None, Result, Ok, Err, refl, sym, ap, ◌∙◌, arith}
use Rattle.std.specs.Char.{is_ascii_uppercase}
use Rattle.std.specs.FinMap as finmap
use Rattle.std.specs.List.{last_or, list_any}
use Rattle.std.specs.List.Sorted.{IsStrictlySortedBy}
use Rattle.std.specs.BTreeMap.{insert_entry}
use Rattle.std.specs.Ordering.{is_lt}
use Rattle.hex.specs.Hex.{encode_lower}
use Rattle.fetch_specs.specs.Names.{is_full_name}
use Rattle.fetch_base.specs.Id.{bytes_of, id_in_hex}
use Rattle.fetch_base.specs.Scan.{split_first}
use Rattle.fetch_base.specs.declared.id.Kind.{Kind}
use Rattle.fetch_base.specs.declared.id.ObjectId.{ObjectId}
use Rattle.fetch_refs.specs.declared.error.PackedError.{PackedError}
use Rattle.fetch_refs.specs.declared.error.PackedError.TheVariants as errors
use Rattle.fetch_refs.specs.declared.slot.Slot.{Slot}
use Rattle.fetch_refs.specs.Contents.{list_of, names_of}
use Rattle.fetch_refs.specs.Names.{RefsValue, name_cmp}
use Rattle.fetch_refs.specs.Packed.{packed_line}
use Rattle.fetch_refs.specs.ReadSteps.{direct_slot, AreAscending, AreReadTo}
use Rattle.fetch_refs.specs.Reading.{IsEntry, IsAnswer}
use Rattle.fetch_refs.proofs.FirstLines.{with_capital, has_space, has_id, has_feed, put_together, shorter}
use Rattle.fetch_refs.proofs.LowerHex.{id_written}
use Rattle.fetch_refs.proofs.PackedLines.{from_end, no_line, out_of_order, one_more, unnamed, whole}

-- ---- the last of a list
pub last-append : {X : Type 0} (o : Option X) (xs : List X) (x : X) → last_or o (xs ++ x ∷ []) ≡ Some x
last-append o [] x = refl
last-append o (y ∷ xs) x = last-append (Some y) xs x

some_is : {X : Type 0} (x y : X) → Some x ≡ Some y → x ≡ y
some_is x y e = cc

same_last : {X : Type 0} (xs ys : List X) (x y : X) → xs ++ x ∷ [] ≡ ys ++ y ∷ [] → x ≡ y
same_last xs ys x y e = some_is x y (sym (last-append None xs x) ∙ ap (last_or None) e ∙ last-append None ys y)

no_last : {X : Type 0} (ys : List X) (y : X) → [] ≡ ys ++ y ∷ [] → ⊥
no_last ys y e = absurd (let h : None ≡ Some y = ap (last_or None) e ∙ last-append None ys y in cc)

abbrev Places : Type 0
Places = List (List ℕ × Slot)

-- whether a name is above the last one, whichever way the last one is named
abbrev IsAbove : Bool → Places → List ℕ → Type 0
IsAbove b places name = (others : Places) (last : List ℕ × Slot) → places ≡ others ++ last ∷ [] → b ≡ is_lt (name_cmp last.0 name)

above : (places : Places) (name : List ℕ) → IsAbove true places name ⊎ ((places ≡ [] → ⊥) × IsAbove false places name)
above places name =
    elim (from_end places) [
      | inl none ↦ inl (λ others last is. absurd (no_last others last (sym none ∙ is)))
      | inr x ↦ by_test x.0 x.1 x.2 (is_lt (name_cmp x.1.0 name)) refl
    ]
  where
    by_test : (front : Places) (end : List ℕ × Slot) → places ≡ front ++ end ∷ [] → (b : Bool) → is_lt (name_cmp end.0 name) ≡ b → IsAbove true places name ⊎ ((places ≡ [] → ⊥) × IsAbove false places name)
    by_test front end at true is = inl (λ others last also. sym is ∙ ap (λ (e : List ℕ × Slot). is_lt (name_cmp e.0 name)) (same_last front others end last (sym at ∙ also)))
    by_test front end at false is = inr (λ none. no_last front end (sym none ∙ at), λ others last also. sym is ∙ ap (λ (e : List ℕ × Slot). is_lt (name_cmp e.0 name)) (same_last front others end last (sym at ∙ also)))

module _ (kind : Kind) where
  -- an entry's line stands first, or none does
  abbrev Front : List ℕ → Type 0
  Front rest = ((e : List ℕ × ObjectId) × (more : List ℕ) × IsEntry kind e × (rest ≡ packed_line e ++ more)) ⊎ ((e : List ℕ × ObjectId) (more : List ℕ) → IsEntry kind e → rest ≡ packed_line e ++ more → ⊥)

  module _ (rest digits behind : List ℕ) (cut : Some (digits, behind) ≡ split_first 32 rest) where
    module _ (id : ObjectId) (spelled : id_in_hex kind digits ≡ Some id) (written : digits ≡ encode_lower (bytes_of id)) where
      by_name : (name more : List ℕ) → Some (name, more) ≡ split_first 10 behind → (b : Bool) → is_full_name name ≡ b → Front rest
      by_name name more fed true is =
          inl ((name, id), more, record { id = ap (id_in_hex kind) (sym written) ∙ spelled; name = is }, (put_together rest digits behind name more id cut written fed).0)
      by_name name more fed false is =
          let line = put_together rest digits behind name more id cut written fed in
          inr (unnamed kind rest more (name, id) line.0 line.1 is)

      by_feed : (o : Option (List ℕ × List ℕ)) → split_first 10 behind ≡ o → Front rest
      by_feed None at = inr (λ e more entry is. has_feed kind rest e more entry is digits behind cut (sym at))
      by_feed (Some x) at = by_name x.0 x.1 (sym at) (is_full_name x.0) refl

    no_id : (o : Option ObjectId) → id_in_hex kind digits ≡ o → o ≡ None → (id : ObjectId) → id_in_hex kind digits ≡ Some id → ⊥
    no_id o at none id some = absurd (let h : None ≡ Some id = sym none ∙ sym at ∙ some in cc)

    by_id : (o : Option ObjectId) → id_in_hex kind digits ≡ o → list_any is_ascii_uppercase digits ≡ false → Front rest
    by_id None at low = inr (λ e more entry is. has_id kind rest e more entry is digits behind cut (λ id written some. no_id None at refl id some))
    by_id (Some id) at low = by_feed id at (id_written kind digits id at low) (split_first 10 behind) refl

    by_case : (b : Bool) → list_any is_ascii_uppercase digits ≡ b → Front rest
    by_case true is = inr (λ e more entry line. has_id kind rest e more entry line digits behind cut (λ id written some. with_capital digits true (sym is) refl id written))
    by_case false is = by_id (id_in_hex kind digits) refl is

  by_space : (rest : List ℕ) (o : Option (List ℕ × List ℕ)) → split_first 32 rest ≡ o → Front rest
  by_space rest None at = inr (λ e more entry is. has_space kind rest e more entry is (sym at))
  by_space rest (Some x) at = by_case rest x.0 x.1 (sym at) (list_any is_ascii_uppercase x.0) refl

  front : (rest : List ℕ) → Front rest
  front rest = by_space rest (split_first 32 rest) refl

  module _ (text : List ℕ) where
    abbrev Answer : Type 0
    Answer = (answer : Result RefsValue PackedError) × IsAnswer kind text answer

    done : (places : Places) → AreReadTo kind text [] places → Answer
    done places read = (Ok (record { hash = kind; names = names_of places; logs = finmap.empty; packed = list_of places }), whole kind text places finmap.empty read refl)

    refused : (rest : List ℕ) (places : Places) → AreReadTo kind text rest places → 0 < length rest → ((e : List ℕ × ObjectId) (more : List ℕ) → IsEntry kind e → rest ≡ packed_line e ++ more → ⊥) → Answer
    refused rest places read some none = (Err (errors.Line (length text - length rest)), no_line kind text rest places read (length text - length rest) refl some none)

    go : (fuel : ℕ) (rest : List ℕ) (places : Places) → AreReadTo kind text rest places → length rest ≤ fuel → Answer
    go fuel [] places read within = done places read
    go zero (b ∷ bs) places read within = absurd (omega (arith, within))
    go (suc fuel) (b ∷ bs) places read within =
        elim (front (b ∷ bs)) [
          | inr none ↦ refused (b ∷ bs) places read (omega arith) none
          | inl x ↦
              let less = shorter (b ∷ bs) x.1 x.0 x.3 in
              elim (above places x.0.0) [
                | inl up ↦ go fuel x.1 (insert_entry name_cmp places x.0.0 (direct_slot x.0.1)) (one_more kind text (b ∷ bs) places read x.0.0 x.1 x.0.1 x.3 x.2 (insert_entry name_cmp places x.0.0 (direct_slot x.0.1)) up refl) (omega (arith, less, within))
                | inr down ↦
                    (Err (errors.Order (length text - length (b ∷ bs))), out_of_order kind text (b ∷ bs) places read x.0.0 x.1 x.0.1 x.3 x.2 (length text - length (b ∷ bs)) refl down.0 down.1)
              ]
        ]

    pub none_yet : AreAscending kind []
    unfolding IsStrictlySortedBy
    none_yet = record { entries = tt; ascending = tt }

    pub some_answer : Answer
    some_answer = go (length text) text [] (record { list = []; all = none_yet; whole = refl; slots = refl }) (omega arith)
