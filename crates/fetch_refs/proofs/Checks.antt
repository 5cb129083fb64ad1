-- The lines of a packed text, tested without memory.
use Rattle.std.proofs.Common.{◌≡◌, ℕ, ◌-◌, ◌<◌, Bool, true, false, List, [], ◌∷◌, ◌++◌, length, Option, None, refl, sym, ap, subst, ◌∙◌, arith}
use Rattle.std.specs.Prelude.{◌==◌}
use Rattle.std.specs.FinMap as finmap
use Rattle.std.specs.List.{last_or}
use Rattle.std.specs.Option.{option_map_or}
use Rattle.std.specs.Ordering.{is_lt}
use Rattle.fetch_specs.specs.Names.{is_full_name, is_name, lock}
use Rattle.fetch_base.specs.Lines.{IsWithout}
use Rattle.fetch_base.specs.declared.id.Kind.{Kind}
use Rattle.fetch_base.specs.declared.id.ObjectId.{ObjectId}
use Rattle.fetch_refs.specs.declared.slot.Slot.{Slot}
use Rattle.fetch_refs.specs.declared.error.PackedError.TheVariants as errors
use Rattle.fetch_refs.specs.Contents.{list_of, names_of}
use Rattle.fetch_refs.specs.Names.{name_cmp}
use Rattle.fetch_refs.specs.Packed.{packed_line}
use Rattle.fetch_refs.specs.ReadSteps.{last_name, direct_slot, AreCheckedTo}
use Rattle.fetch_refs.specs.Reading.{IsEntry, IsNoLineAt, IsOutOfOrderAt, IsRefusedAs}
use Rattle.fetch_refs.proofs.PackedAnswers.{last-append, none_yet}
use Rattle.fetch_refs.proofs.PackedLines.{no_line, out_of_order, one_place, unnamed, whole}

abbrev Places : Type 0
Places = List (List ℕ × Slot)

ended_by : (places others : Places) (last : List ℕ × Slot) → places ≡ others ++ last ∷ [] → last_name places ≡ last.0
ended_by places others last is = ap (λ (o : Option (List ℕ × Slot)). option_map_or (λ (e : List ℕ × Slot). e.0) o []) (ap (last_or None) is ∙ last-append None others last)

-- a full name has bytes
unlike : false ≡ true → ⊥
unlike e = absurd cc

some_bytes : (name : List ℕ) → is_full_name name ≡ true → is_lt (name_cmp [] name) ≡ true
unfolding is_full_name is_name lock
some_bytes [] full = absurd (unlike full)
some_bytes (b ∷ bs) full = refl

nothing_left : (rest : List ℕ) (empty : Bool) → empty ≡ (length rest == 0) → empty ≡ true → rest ≡ []
nothing_left [] empty is so = refl
nothing_left (b ∷ bs) empty is so = absurd (let none = count (length (b ∷ bs)) empty is so in omega (arith, none))
  where
    count : (n : ℕ) (t : Bool) → t ≡ (n == 0) → t ≡ true → n ≡ 0
    count n t is so = grind (arith)

pub some_left : (rest : List ℕ) (empty : Bool) → empty ≡ (length rest == 0) → empty ≡ false → 0 < length rest
some_left rest empty is more = grind (arith)

module _ (kind : Kind) (text : List ℕ) where
  pub begun : AreCheckedTo kind text text []
  begun = record { places = []; read = record { list = []; all = none_yet kind text; whole = refl; slots = refl }; name = refl }

  module _ (rest last : List ℕ) (so_far : AreCheckedTo kind text rest last) where
    pub no_entry : 0 < length rest → ((e : List ℕ × ObjectId) (more : List ℕ) → IsEntry kind e → rest ≡ packed_line e ++ more → ⊥) → IsNoLineAt kind text (length text - length rest)
    no_entry some none = no_line kind text rest so_far.places so_far.read (length text - length rest) refl some none

    pub all_read : (empty : Bool) → empty ≡ (length rest == 0) → empty ≡ true → IsRefusedAs kind text errors.NoMemory
    all_read empty is so =
        let end : AreCheckedTo kind text [] last = subst (λ (r : List ℕ). AreCheckedTo kind text r last) (nothing_left rest empty is so) so_far in
        (record { hash = kind; names = names_of end.places; logs = finmap.empty; packed = list_of end.places }, whole kind text end.places finmap.empty end.read refl)

    module _ (name more : List ℕ) (id : ObjectId) (next : rest ≡ packed_line (name, id) ++ more) where
      pub no_name : 0 < length rest → IsWithout 10 name → is_full_name name ≡ false → IsNoLineAt kind text (length text - length rest)
      no_name some none short = no_entry some (unnamed kind rest more (name, id) next none short)

      module _ (entry : IsEntry kind (name, id)) where
        pub not_after : is_lt (name_cmp last name) ≡ false → IsOutOfOrderAt kind text (length text - length rest)
        not_after below =
            out_of_order kind text rest so_far.places so_far.read name more id next entry (length text - length rest) refl
            (λ none. absurd (let h : false ≡ true = sym below ∙ ap (λ (n : List ℕ). is_lt (name_cmp n name)) (so_far.name ∙ ap last_name none) ∙ some_bytes name entry.name in cc))
            (λ others end is. sym below ∙ ap (λ (n : List ℕ). is_lt (name_cmp n name)) (so_far.name ∙ ended_by so_far.places others end is))

        pub checked : is_lt (name_cmp last name) ≡ true → AreCheckedTo kind text more name
        checked above =
            record {
              places = so_far.places ++ (name, direct_slot id) ∷ [];
              read = one_place kind text rest so_far.places so_far.read name more id next entry
                  (λ others end is. sym above ∙ ap (λ (n : List ℕ). is_lt (name_cmp n name)) (so_far.name ∙ ended_by so_far.places others end is));
              name = sym (ended_by (so_far.places ++ (name, direct_slot id) ∷ []) so_far.places (name, direct_slot id) refl);
            }
