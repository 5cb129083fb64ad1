-- The lines of a packed text, one after the other.
use Rattle.std.proofs.Common.{◌≡◌, ℕ, ◌+◌, ◌-◌, ◌<◌, true, false, ◌⊎◌, inl, inr, List, [], ◌∷◌, ◌++◌, length, Option, Some, Result, Ok, Err, refl, sym, ap, subst, ◌∙◌, arith, append_assoc, append-nil, length-append}
use Rattle.std.specs.List.{AllByRecursion}
use Rattle.std.specs.List.Sorted.{IsStrictlySortedBy}
use Rattle.std.specs.Map.{keys_of}
use Rattle.std.specs.FinMap as finmap
use Rattle.std.specs.BTreeMap.{insert_entry}
use Rattle.std.specs.declared.cmp.Ordering.TheVariants.{Less}
use Rattle.std.proofs.lemmas.List.{flat_map_more}
use Rattle.std.specs.Ordering.{is_lt}
use Rattle.std.specs.Result.{IsErrAnd}
use Rattle.fetch_store.proofs.Probes.{lesser}
use Rattle.fetch_base.specs.declared.id.Kind.{Kind}
use Rattle.fetch_base.specs.declared.id.ObjectId.{ObjectId}
use Rattle.fetch_base.specs.Lines.{IsWithout}
use Rattle.fetch_specs.specs.Names.{is_full_name}
use Rattle.fetch_refs.specs.declared.error.PackedError.{PackedError}
use Rattle.fetch_refs.specs.declared.slot.Slot.{Slot}
use Rattle.fetch_refs.specs.declared.target.Target.{Target}
use Rattle.fetch_refs.specs.declared.target.Target.TheVariants.{Object}
use Rattle.fetch_refs.specs.Contents.{value_of, packed_of, list_of, names_of}
use Rattle.fetch_refs.specs.Iter.{standing}
use Rattle.fetch_refs.specs.Names.{Logs, Names, PackedList, name_cmp}
use Rattle.fetch_refs.specs.Packed.{packed_line, packed_text}
use Rattle.fetch_refs.specs.ReadSteps.{direct_slot, slots_of, AreReadTo, AreRead}
use Rattle.fetch_refs.specs.Reading.{IsEntry, GoesOnAt, IsReadAs, IsNoLineAt, IsOutOfOrderAt}
use Rattle.fetch_refs.specs.Slots.{over, each}
use Rattle.fetch_refs.proofs.FullTexts.{feedless_name}
use Rattle.fetch_refs.proofs.Maps.{insert-last}
use Rattle.fetch_refs.proofs.Names.{name_cmp_total}
use Rattle.fetch_refs.proofs.PackedReads.{Entries, lines, same_parts}
use Rattle.fetch_refs.proofs.Standing.{entries-each}

keys-slots : (es : Entries) → keys_of (slots_of es) ≡ keys_of es
keys-slots [] = refl
keys-slots (e ∷ es) = ap (λ (ks : List (List ℕ)). e.0 ∷ ks) (keys-slots es)

standing-slots : (es : Entries) → standing (each packed_of (slots_of es)) ≡ es
standing-slots [] = refl
standing-slots (e ∷ es) = ap (λ (xs : Entries). e ∷ xs) (standing-slots es)

values-slots : (es : Entries) → each value_of (slots_of es) ≡ each (λ id. Some (Object id)) es
values-slots [] = refl
values-slots (e ∷ es) = ap (λ (xs : List (List ℕ × Option Target)). (e.0, Some (Object e.1)) ∷ xs) (values-slots es)

slots-append : (es : Entries) (e : List ℕ × ObjectId) → slots_of (es ++ e ∷ []) ≡ slots_of es ++ (e.0, direct_slot e.1) ∷ []
slots-append [] e = refl
slots-append (x ∷ es) e = ap (λ (ss : List (List ℕ × Slot)). (x.0, direct_slot x.1) ∷ ss) (slots-append es e)

entries-list : (es : Entries) → IsStrictlySortedBy name_cmp (keys_of es) → finmap.entries (list_of (slots_of es)) ≡ es
entries-list es s = entries-each packed_of (slots_of es) (subst (IsStrictlySortedBy name_cmp) (sym (keys-slots es)) s) ∙ standing-slots es

-- a list is empty, or it has a last element
pub from_end : {X : Type 0} (xs : List X) → (xs ≡ []) ⊎ ((front : List X) × (last : X) × (xs ≡ front ++ last ∷ []))
from_end [] = inl refl
from_end {X} (x ∷ xs) =
    elim (from_end xs) [
      | inl none ↦ inr ([], x, ap (λ (ys : List X). x ∷ ys) none)
      | inr some ↦ inr (x ∷ some.0, some.1, ap (λ (ys : List X). x ∷ ys) some.2)
    ]

-- an entry more
all_more : (P : List ℕ × ObjectId → Type 0) (es : Entries) (e : List ℕ × ObjectId) → AllByRecursion P es → P e → AllByRecursion P (es ++ e ∷ [])
all_more P [] e all one = (one, tt)
all_more P (x ∷ es) e all one = (all.0, all_more P es e all.1 one)

below_more : (k : List ℕ) (es : Entries) (e : List ℕ × ObjectId) → AllByRecursion (λ y. name_cmp k y ≡ Less) (keys_of es) → name_cmp k e.0 ≡ Less → AllByRecursion (λ y. name_cmp k y ≡ Less) (keys_of (es ++ e ∷ []))
below_more k [] e all one = (one, tt)
below_more k (x ∷ es) e all one = (all.0, below_more k es e all.1 one)

-- the last of the names is below it, and so are all
is_last : (k : List ℕ) (others : Entries) (last : List ℕ × ObjectId) → AllByRecursion (λ y. name_cmp k y ≡ Less) (keys_of (others ++ last ∷ [])) → name_cmp k last.0 ≡ Less
is_last k [] last all = all.0
is_last k (x ∷ others) last all = is_last k others last all.1

sorted_more : (others : Entries) (last e : List ℕ × ObjectId) → IsStrictlySortedBy name_cmp (keys_of (others ++ last ∷ [])) → name_cmp last.0 e.0 ≡ Less → IsStrictlySortedBy name_cmp (keys_of ((others ++ last ∷ []) ++ e ∷ []))
unfolding IsStrictlySortedBy
sorted_more [] last e s less = ((less, tt), (tt, tt))
sorted_more (x ∷ others) last e s less =
    (below_more x.0 (others ++ last ∷ []) e s.0 (name_cmp_total.trans x.0 last.0 e.0 (is_last x.0 others last s.0) less), sorted_more others last e s.1 less)

one_sorted : (e : List ℕ × ObjectId) → IsStrictlySortedBy name_cmp (keys_of (e ∷ []))
unfolding IsStrictlySortedBy
one_sorted e = (tt, tt)

text_more : (es : Entries) (e : List ℕ × ObjectId) (text rest more : List ℕ) → text ≡ lines es ++ rest → rest ≡ packed_line e ++ more → text ≡ lines (es ++ e ∷ []) ++ more
text_more es e text rest more is next =
    is ∙ ap (λ (t : List ℕ). lines es ++ t) next ∙ sym (append_assoc (lines es) (packed_line e) more)
    ∙ ap (λ (t : List ℕ). t ++ more) (flat_map_more packed_line [] es e)

abbrev list_from : Entries → PackedList
list_from es = list_of (slots_of es)

module _ (kind : Kind) (text rest : List ℕ) (places : List (List ℕ × Slot)) (read : AreReadTo kind text rest places) where
  same_entries : finmap.entries (list_from read.list) ≡ read.list
  same_entries = entries-list read.list read.all.ascending

  goes_on : (place : ℕ) → place ≡ length text - length rest → GoesOnAt kind text place (list_from read.list) rest
  goes_on place at =
      let shown : packed_text (list_from read.list) ≡ lines read.list = ap lines same_entries in
      let len : length text ≡ length (lines read.list) + length rest = ap (length {A = ℕ}) read.whole ∙ length-append (lines read.list) rest in
      let here : length (lines read.list) ≡ place = omega (arith, len, at) in
      record {
        entries = subst (AllByRecursion (IsEntry kind)) (sym same_entries) read.all.entries;
        whole = read.whole ∙ ap (λ (t : List ℕ). t ++ rest) (sym shown);
        len = ap (length {A = ℕ}) shown ∙ here;
      }

  pub no_line : (place : ℕ) → place ≡ length text - length rest → 0 < length rest → ((e : List ℕ × ObjectId) (more : List ℕ) → IsEntry kind e → rest ≡ packed_line e ++ more → ⊥) → IsNoLineAt kind text place
  no_line place at some none = record { list = list_from read.list; rest = rest; before = goes_on place at; some = some; none = none }

  module _ (name more : List ℕ) (id : ObjectId) (next : rest ≡ packed_line (name, id) ++ more) (entry : IsEntry kind (name, id)) where
    last_place : (others : Entries) (last : List ℕ × ObjectId) → read.list ≡ others ++ last ∷ [] → places ≡ slots_of others ++ (last.0, direct_slot last.1) ∷ []
    last_place others last is = read.slots ∙ ap slots_of is ∙ slots-append others last

    pub out_of_order : (place : ℕ) → place ≡ length text - length rest → (places ≡ [] → ⊥)
        → ((others : List (List ℕ × Slot)) (last : List ℕ × Slot) → places ≡ others ++ last ∷ [] → false ≡ is_lt (name_cmp last.0 name)) → IsOutOfOrderAt kind text place
    out_of_order place at some below =
        elim (from_end read.list) [
          | inl none ↦ absurd (some (read.slots ∙ ap slots_of none))
          | inr x ↦
              let before : GoesOnAt kind text place (list_from read.list) rest = goes_on place at in
              record {
                list = list_from read.list;
                others = x.0;
                last = x.1;
                next = (name, id);
                more = more;
                before = subst (GoesOnAt kind text place (list_from read.list)) next before;
                ends = same_entries ∙ x.2;
                entry = entry;
                below = λ less. absurd (let h : false ≡ true = below (slots_of x.0) (x.1.0, direct_slot x.1.1) (last_place x.0 x.1 x.2) ∙ ap is_lt less in cc);
              }
        ]

    more_sorted : ((others : List (List ℕ × Slot)) (last : List ℕ × Slot) → places ≡ others ++ last ∷ [] → true ≡ is_lt (name_cmp last.0 name)) → IsStrictlySortedBy name_cmp (keys_of (read.list ++ (name, id) ∷ []))
    more_sorted above =
        elim (from_end read.list) [
          | inl none ↦ subst (λ (xs : Entries). IsStrictlySortedBy name_cmp (keys_of (xs ++ (name, id) ∷ []))) (sym none) (one_sorted (name, id))
          | inr x ↦
              let less = lesser (name_cmp x.1.0 name) (sym (above (slots_of x.0) (x.1.0, direct_slot x.1.1) (last_place x.0 x.1 x.2))) in
              subst (λ (xs : Entries). IsStrictlySortedBy name_cmp (keys_of (xs ++ (name, id) ∷ []))) (sym x.2)
              (sorted_more x.0 x.1 (name, id) (subst (λ (xs : Entries). IsStrictlySortedBy name_cmp (keys_of xs)) x.2 read.all.ascending) less)
        ]

    pub one_more : (after : List (List ℕ × Slot)) → ((others : List (List ℕ × Slot)) (last : List ℕ × Slot) → places ≡ others ++ last ∷ [] → true ≡ is_lt (name_cmp last.0 name))
        → after ≡ insert_entry name_cmp places name (direct_slot id) → AreReadTo kind text more after
    one_more after above is =
        let up = more_sorted above in
        let e : List ℕ × ObjectId = (name, id) in
        let slots = slots-append read.list e in
        let last = insert-last name_cmp_total (slots_of read.list) name (direct_slot id) [] (subst (IsStrictlySortedBy name_cmp) (sym (keys-slots (read.list ++ e ∷ [])) ∙ ap keys_of slots) up) in
        record {
          list = read.list ++ e ∷ [];
          all = record { entries = all_more (IsEntry kind) read.list e read.all.entries entry; ascending = up };
          whole = text_more read.list e text rest more read.whole next;
          slots = is ∙ ap (λ (ps : List (List ℕ × Slot)). insert_entry name_cmp ps name (direct_slot id)) read.slots ∙ last ∙ sym slots;
        }

    -- the same, with the place at the end
    pub one_place : ((others : List (List ℕ × Slot)) (last : List ℕ × Slot) → places ≡ others ++ last ∷ [] → true ≡ is_lt (name_cmp last.0 name)) → AreReadTo kind text more (places ++ (name, direct_slot id) ∷ [])
    one_place above =
        let e : List ℕ × ObjectId = (name, id) in
        record {
          list = read.list ++ e ∷ [];
          all = record { entries = all_more (IsEntry kind) read.list e read.all.entries entry; ascending = more_sorted above };
          whole = text_more read.list e text rest more read.whole next;
          slots = ap (λ (ps : List (List ℕ × Slot)). ps ++ (name, direct_slot id) ∷ []) read.slots ∙ sym (slots-append read.list e);
        }

-- what is read of the whole text
pub whole : (kind : Kind) (text : List ℕ) (places : List (List ℕ × Slot)) (logs : Logs) → AreRead kind text places → logs ≡ finmap.empty
    → IsReadAs kind text (record { hash = kind; names = names_of places; logs = logs; packed = list_of places })
whole kind text places logs read none =
    let same : list_of places ≡ list_from read.list = ap list_of read.slots in
    let entries : finmap.entries (list_of places) ≡ read.list = ap finmap.entries same ∙ entries-list read.list read.all.ascending in
    let names : names_of places ≡ over finmap.empty (each (λ id. Some (Object id)) (finmap.entries (list_of places))) =
    ap names_of read.slots ∙ ap (over finmap.empty) (values-slots read.list) ∙ ap (λ (es : Entries). over finmap.empty (each (λ id. Some (Object id)) es)) (sym entries) in
    record {
      entries = subst (AllByRecursion (IsEntry kind)) (sym entries) read.all.entries;
      whole = read.whole ∙ append-nil (lines read.list) ∙ ap lines (sym entries);
      alone = ap (λ (ls : Logs). record { hash = kind; names = names_of places; logs = ls; packed = list_of places }) none
          ∙ ap (λ (ns : Names). record { hash = kind; names = ns; logs = finmap.empty; packed = list_of places }) names;
    }

abbrev same_result : {X : Type 0} → Result X PackedError → Result X PackedError → Type 0
same_result a b = a ≡ b

err_is : {X : Type 0} (x q : PackedError) → same_result {X = X} (Err x) (Err q) → x ≡ q
err_is x q same = cc

-- what a `?` hands on
pub handed_on : {X : Type 0} (found : Result X PackedError) (e q : PackedError) → IsErrAnd found (λ x. x ≡ e) → found ≡ Err q → e ≡ q
handed_on (Ok x) e q is same = absurd cc
handed_on (Err x) e q is same = sym is ∙ err_is x q same

-- a line whose name isn't a full one is no entry's
pub unnamed : (kind : Kind) (rest more : List ℕ) (e : List ℕ × ObjectId) → rest ≡ packed_line e ++ more → IsWithout 10 e.0 → is_full_name e.0 ≡ false
    → (f : List ℕ × ObjectId) (after : List ℕ) → IsEntry kind f → rest ≡ packed_line f ++ after → ⊥
unnamed kind rest more e is none short f after entry also =
    let parts = same_parts e f more after none (feedless_name f.0 entry.name) (sym is ∙ also) in
    absurd (let h : false ≡ true = sym short ∙ ap is_full_name parts.name ∙ entry.name in cc)
