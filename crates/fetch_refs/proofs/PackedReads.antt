-- A packed text is read in one way.
use Rattle.std.proofs.Common.{◌≡◌, ℕ, ◌⊎◌, inl, inr, List, [], ◌∷◌, ◌++◌, length, Option, Some, Result, Ok, Err, refl, sym, ap, subst, ◌∙◌, arith, append_assoc, append-nil, length-append}
use Rattle.std.specs.Prelude.{◌↔◌}
use Rattle.std.specs.List.{AllByRecursion, flat_map}
use Rattle.std.specs.List.Sorted.{IsStrictlySortedBy}
use Rattle.std.specs.Map.{keys_of}
use Rattle.std.specs.Result.{IsErrAnd}
use Rattle.std.specs.FinMap as finmap
use Rattle.std.specs.declared.cmp.Ordering.TheVariants.{Less}
use Rattle.hex.specs.Hex.{encode_lower}
use Rattle.fetch_base.specs.Id.{bytes_of, id_in_hex}
use Rattle.fetch_base.specs.Lines.{IsWithout}
use Rattle.fetch_base.specs.declared.id.Kind.{Kind}
use Rattle.fetch_base.specs.declared.id.ObjectId.{ObjectId}
use Rattle.fetch_base.proofs.LineLaws.{splits}
use Rattle.fetch_refs.specs.declared.error.PackedError.{PackedError}
use Rattle.fetch_refs.specs.declared.error.PackedError.TheVariants as errors
use Rattle.fetch_refs.specs.Names.{PackedList, RefsValue, name_cmp}
use Rattle.fetch_refs.specs.Packed.{packed_line, packed_text}
use Rattle.fetch_refs.specs.ReadSteps.{AreAscending}
use Rattle.fetch_refs.specs.Reading.{IsEntry, AreEntries, IsReadAs, IsNoLineAt, IsOutOfOrderAt, IsAnswer, AnswersWhere, IsRefusedAs, references_of}
use Rattle.fetch_refs.proofs.FullTexts.{feedless_name}
use Rattle.fetch_refs.proofs.LowerHex.{spaceless}
use Rattle.fetch_refs.proofs.Maps.{sorted_entries}

abbrev pub Entries : Type 0
Entries = List (List ℕ × ObjectId)

abbrev pub lines : Entries → List ℕ
lines es = flat_map packed_line es

-- ---- one line
pub line_is : (e : List ℕ × ObjectId) (more : List ℕ) → packed_line e ++ more ≡ encode_lower (bytes_of e.1) ++ 32 ∷ (e.0 ++ 10 ∷ more)
line_is e more = append_assoc (encode_lower (bytes_of e.1) ++ 32 ∷ e.0) (10 ∷ []) more ∙ append_assoc (encode_lower (bytes_of e.1)) (32 ∷ e.0) (10 ∷ more)

abbrev pub Cut : Type 0
Cut = Option (List ℕ × List ℕ)

pub cut_is : (x y : List ℕ × List ℕ) → Some x ≡ Some y → x ≡ y
cut_is x y e = cc

some_parts : (x y : List ℕ × List ℕ) → Some x ≡ Some y → (x.0 ≡ y.0) × (x.1 ≡ y.1)
some_parts x y e = let p = cut_is x y e in (ap (λ (x : List ℕ × List ℕ). x.0) p, ap (λ (x : List ℕ × List ℕ). x.1) p)

same_some : (a b : ObjectId) → Some a ≡ Some b → a ≡ b
same_some a b e = cc

-- the parts of a text round its first byte of a kind are one
one_split : (c : ℕ) (text a b a' b' : List ℕ) → text ≡ a ++ c ∷ b → IsWithout c a → text ≡ a' ++ c ∷ b' → IsWithout c a' → (a ≡ a') × (b ≡ b')
one_split c text a b a' b' is none is' none' = some_parts (a, b) (a', b') (sym ((splits c text).only a b is none) ∙ (splits c text).only a' b' is' none')

pub record AreAlike (e f : List ℕ × ObjectId) (r s : List ℕ) : Type 0 where
  pub digits : encode_lower (bytes_of e.1) ≡ encode_lower (bytes_of f.1)
  pub name : e.0 ≡ f.0
  pub rest : r ≡ s

-- two lines at the front of one text
pub same_parts : (e f : List ℕ × ObjectId) (r s : List ℕ) → IsWithout 10 e.0 → IsWithout 10 f.0 → packed_line e ++ r ≡ packed_line f ++ s → AreAlike e f r s
same_parts e f r s he hf same =
    let hex = one_split 32 (packed_line e ++ r) (encode_lower (bytes_of e.1)) (e.0 ++ 10 ∷ r) (encode_lower (bytes_of f.1)) (f.0 ++ 10 ∷ s) (line_is e r) (spaceless (bytes_of e.1)) (same ∙ line_is f s) (spaceless (bytes_of f.1)) in
    let name = one_split 10 (e.0 ++ 10 ∷ r) e.0 r f.0 s refl he hex.1 hf in
    record { digits = hex.0; name = name.0; rest = name.1 }

module _ (kind : Kind) where
  -- two entries whose lines begin one text are one
  pub same_line : (e f : List ℕ × ObjectId) (r s : List ℕ) → IsEntry kind e → IsEntry kind f → packed_line e ++ r ≡ packed_line f ++ s → (e ≡ f) × (r ≡ s)
  same_line e f r s he hf same =
      let parts = same_parts e f r s (feedless_name e.0 he.name) (feedless_name f.0 hf.name) same in
      let id : e.1 ≡ f.1 = same_some e.1 f.1 (sym he.id ∙ ap (id_in_hex kind) parts.digits ∙ hf.id) in
      (ap (λ (n : List ℕ). (n, e.1)) parts.name ∙ ap (λ (x : ObjectId). (f.0, x)) id, parts.rest)

  -- ---- the lines of lists
  abbrev Is : Entries → Type 0
  Is es = AllByRecursion (IsEntry kind) es

  first_line : (e : List ℕ × ObjectId) (es : Entries) (r : List ℕ) → lines (e ∷ es) ++ r ≡ packed_line e ++ (lines es ++ r)
  first_line e es r = append_assoc (packed_line e) (lines es) r

  -- Of two lists whose lines begin one text, one goes on with the other.
  ahead : (es fs : Entries) (r s : List ℕ) → Is es → Is fs → lines es ++ r ≡ lines fs ++ s
      → ((gs : Entries) × (fs ≡ es ++ gs) × (r ≡ lines gs ++ s)) ⊎ ((gs : Entries) × (es ≡ fs ++ gs) × (s ≡ lines gs ++ r))
  ahead [] fs r s he hf same = inl (fs, refl, same)
  ahead (e ∷ es) [] r s he hf same = inr (e ∷ es, refl, sym same)
  ahead (e ∷ es) (f ∷ fs) r s he hf same =
      let one = same_line e f (lines es ++ r) (lines fs ++ s) he.0 hf.0 (sym (first_line e es r) ∙ same ∙ first_line f fs s) in
      elim (ahead es fs r s he.1 hf.1 one.1) [
        | inl x ↦ inl (x.0, ap (λ (y : List ℕ × ObjectId). y ∷ fs) (sym one.0) ∙ ap (λ (ys : Entries). e ∷ ys) x.1, x.2)
        | inr x ↦ inr (x.0, ap (λ (y : List ℕ × ObjectId). y ∷ es) one.0 ∙ ap (λ (ys : Entries). f ∷ ys) x.1, x.2)
      ]

  member : (es gs : Entries) (g : List ℕ × ObjectId) → Is (es ++ g ∷ gs) → IsEntry kind g
  member [] gs g all = all.0
  member (e ∷ es) gs g all = member es gs g all.1

  below_front : (k : List ℕ) (es gs : Entries) (g : List ℕ × ObjectId) → AllByRecursion (λ y. name_cmp k y ≡ Less) (keys_of (es ++ g ∷ gs)) → AllByRecursion (λ y. name_cmp k y ≡ Less) (keys_of (es ++ g ∷ []))
  below_front k [] gs g all = (all.0, tt)
  below_front k (e ∷ es) gs g all = (all.0, below_front k es gs g all.1)

  -- the first names of an ascending list ascend
  front_ascends : (es gs : Entries) (g : List ℕ × ObjectId) → IsStrictlySortedBy name_cmp (keys_of (es ++ g ∷ gs)) → IsStrictlySortedBy name_cmp (keys_of (es ++ g ∷ []))
  unfolding IsStrictlySortedBy
  front_ascends [] gs g s = (tt, tt)
  front_ascends (e ∷ es) gs g s = (below_front e.0 es gs g s.0, front_ascends es gs g s.1)

  -- no entry that the rest begins with makes the list longer
  abbrev Ends : Entries → List ℕ → Type 0
  Ends es rest = (e : List ℕ × ObjectId) (more : List ℕ) → IsEntry kind e → rest ≡ packed_line e ++ more → IsStrictlySortedBy name_cmp (keys_of (es ++ e ∷ [])) → ⊥

  ends_here : (es fs gs : Entries) (r s : List ℕ) → AreAscending kind fs → Ends es r → fs ≡ es ++ gs → r ≡ lines gs ++ s → (es ≡ fs) × (r ≡ s)
  ends_here es fs [] r s hf ends is rest = (sym (is ∙ append-nil es), rest)
  ends_here es fs (g ∷ gs) r s hf ends is rest =
      let all : Is (es ++ g ∷ gs) = subst Is is hf.entries in
      let up : IsStrictlySortedBy name_cmp (keys_of (es ++ g ∷ gs)) = subst (λ (xs : Entries). IsStrictlySortedBy name_cmp (keys_of xs)) is hf.ascending in
      absurd (ends g (lines gs ++ s) (member es gs g all) (rest ∙ first_line g gs s) (front_ascends es gs g up))

  -- a text has one longest ascending list of lines at its front
  one_end : (es fs : Entries) (r s : List ℕ) → AreAscending kind es → AreAscending kind fs → Ends es r → Ends fs s → lines es ++ r ≡ lines fs ++ s → (es ≡ fs) × (r ≡ s)
  one_end es fs r s he hf ende endf same =
      elim (ahead es fs r s he.entries hf.entries same) [
        | inl x ↦ ends_here es fs x.0 r s hf ende x.1 x.2
        | inr x ↦ let back = ends_here fs es x.0 s r he endf x.1 x.2 in (sym back.0, sym back.1)
      ]

  ascending : (list : PackedList) → AreEntries kind list → AreAscending kind (finmap.entries list)
  ascending list all = record { entries = all; ascending = sorted_entries name_cmp (finmap.entries list) (finmap.entries_sorted list) }

  -- ---- the answers
  some_line : (e : List ℕ × ObjectId) (more : List ℕ) → [] ≡ packed_line e ++ more → ⊥
  some_line e more is = absurd (let n : length {A = ℕ} [] ≡ length (encode_lower (bytes_of e.1) ++ 32 ∷ (e.0 ++ 10 ∷ more)) = ap (length {A = ℕ}) (is ∙ line_is e more) in omega (arith, n, length-append (encode_lower (bytes_of e.1)) (32 ∷ (e.0 ++ 10 ∷ more))))

  module _ (text : List ℕ) where
    -- where a text stops to be the lines of a list
    record Stop (rest : List ℕ) : Type 0 where
      list : PackedList
      all : AreEntries kind list
      text_is : text ≡ packed_text list ++ rest
      ends : Ends (finmap.entries list) rest

    one_stop : (r s : List ℕ) (a : Stop r) (b : Stop s) → (a.list ≡ b.list) × (r ≡ s)
    one_stop r s a b =
        let one = one_end (finmap.entries a.list) (finmap.entries b.list) r s (ascending a.list a.all) (ascending b.list b.all) a.ends b.ends (sym a.text_is ∙ b.text_is) in
        (finmap.same_entries_map a.list b.list one.0, one.1)

    abbrev read_stop : (refs : RefsValue) → IsReadAs kind text refs → Stop []
    read_stop refs h = record { list = refs.packed; all = h.entries; text_is = h.whole ∙ sym (append-nil (packed_text refs.packed)); ends = λ e more he is up. some_line e more is }

    abbrev line_stop : (place : ℕ) (h : IsNoLineAt kind text place) → Stop h.rest
    line_stop place h = record { list = h.list; all = h.before.entries; text_is = h.before.whole; ends = λ e more he is up. h.none e more he is }

    last_below : (others : Entries) (last next : List ℕ × ObjectId) → IsStrictlySortedBy name_cmp (keys_of ((others ++ last ∷ []) ++ next ∷ [])) → name_cmp last.0 next.0 ≡ Less
    unfolding IsStrictlySortedBy
    last_below [] last next s = s.0.0
    last_below (e ∷ others) last next s = last_below others last next s.1

    abbrev order_stop : (place : ℕ) (h : IsOutOfOrderAt kind text place) → Stop (packed_line h.next ++ h.more)
    order_stop place h = record {
      list = h.list;
      all = h.before.entries;
      text_is = h.before.whole;
      ends = λ e more he is up.
          let same = same_line h.next e h.more more h.entry he is in
          let s = subst (λ (xs : Entries). IsStrictlySortedBy name_cmp (keys_of (xs ++ e ∷ []))) h.ends up in
          h.below (ap (λ (x : List ℕ × ObjectId). name_cmp h.last.0 x.0) same.0 ∙ last_below h.others h.last e s);
    }

    same_refs : (a b : RefsValue) → IsReadAs kind text a → IsReadAs kind text b → a ≡ b
    same_refs a b ha hb = let one = one_stop [] [] (read_stop a ha) (read_stop b hb) in ha.alone ∙ ap (references_of kind) one.0 ∙ sym hb.alone

    read_line : (a : RefsValue) (p : ℕ) → IsReadAs kind text a → IsNoLineAt kind text p → ⊥
    read_line a p ha hb =
        let one = one_stop [] hb.rest (read_stop a ha) (line_stop p hb) in
        absurd (let n : 0 ≡ length hb.rest = ap (length {A = ℕ}) one.1 in omega (arith, n, hb.some))

    read_order : (a : RefsValue) (p : ℕ) → IsReadAs kind text a → IsOutOfOrderAt kind text p → ⊥
    read_order a p ha hb = some_line hb.next hb.more (one_stop [] (packed_line hb.next ++ hb.more) (read_stop a ha) (order_stop p hb)).1

    line_order : (p q : ℕ) → IsNoLineAt kind text p → IsOutOfOrderAt kind text q → ⊥
    line_order p q ha hb = ha.none hb.next hb.more hb.entry (one_stop ha.rest (packed_line hb.next ++ hb.more) (line_stop p ha) (order_stop q hb)).1

    same_place : (p q : ℕ) (l m : PackedList) → length (packed_text l) ≡ p → length (packed_text m) ≡ q → l ≡ m → p ≡ q
    same_place p q l m hp hq is = sym hp ∙ ap (λ (x : PackedList). length (packed_text x)) is ∙ hq

    same_lines : (p q : ℕ) → IsNoLineAt kind text p → IsNoLineAt kind text q → p ≡ q
    same_lines p q ha hb = same_place p q ha.list hb.list ha.before.len hb.before.len (one_stop ha.rest hb.rest (line_stop p ha) (line_stop q hb)).0

    same_orders : (p q : ℕ) → IsOutOfOrderAt kind text p → IsOutOfOrderAt kind text q → p ≡ q
    same_orders p q ha hb = same_place p q ha.list hb.list ha.before.len hb.before.len (one_stop (packed_line ha.next ++ ha.more) (packed_line hb.next ++ hb.more) (order_stop p ha) (order_stop q hb)).0

    -- each text has one answer
    pub one_answer : (a b : Result RefsValue PackedError) → IsAnswer kind text a → IsAnswer kind text b → a ≡ b
    one_answer (Ok a) (Ok b) ha hb = ap (λ (x : RefsValue). Ok x) (same_refs a b ha hb)
    one_answer (Ok a) (Err (errors.Line q)) ha hb = absurd (read_line a q ha hb)
    one_answer (Ok a) (Err (errors.Order q)) ha hb = absurd (read_order a q ha hb)
    one_answer (Ok a) (Err errors.NoMemory) ha hb = absurd hb
    one_answer (Err (errors.Line p)) (Ok b) ha hb = absurd (read_line b p hb ha)
    one_answer (Err (errors.Line p)) (Err (errors.Line q)) ha hb = ap (λ (x : ℕ). Err (errors.Line x)) (same_lines p q ha hb)
    one_answer (Err (errors.Line p)) (Err (errors.Order q)) ha hb = absurd (line_order p q ha hb)
    one_answer (Err (errors.Line p)) (Err errors.NoMemory) ha hb = absurd hb
    one_answer (Err (errors.Order p)) (Ok b) ha hb = absurd (read_order b p hb ha)
    one_answer (Err (errors.Order p)) (Err (errors.Line q)) ha hb = absurd (line_order q p hb ha)
    one_answer (Err (errors.Order p)) (Err (errors.Order q)) ha hb = ap (λ (x : ℕ). Err (errors.Order x)) (same_orders p q ha hb)
    one_answer (Err (errors.Order p)) (Err errors.NoMemory) ha hb = absurd hb
    one_answer (Err errors.NoMemory) b ha hb = absurd ha

    -- what is read, or why it isn't
    abbrev pub IsSound : Result RefsValue PackedError → Type 0
    IsSound (Ok refs) = IsReadAs kind text refs
    IsSound (Err e) = IsRefusedAs kind text e

    pub sound_error : (found : Result RefsValue PackedError) (e : PackedError) → IsErrAnd found (λ x. x ≡ e) → IsRefusedAs kind text e → IsSound found
    sound_error (Ok x) e is h = absurd is
    sound_error (Err x) e is h = subst (IsRefusedAs kind text) (sym is) h

    always : (found : Result RefsValue PackedError) → IsSound found → (refs : RefsValue) → IsReadAs kind text refs → (found ≡ Ok refs) ⊎ (found ≡ Err errors.NoMemory)
    always (Ok x) sound refs h = inl (ap (λ (r : RefsValue). Ok r) (same_refs x refs sound h))
    always (Err (errors.Line p)) sound refs h = absurd (read_line refs p h sound)
    always (Err (errors.Order p)) sound refs h = absurd (read_order refs p h sound)
    always (Err errors.NoMemory) sound refs h = inr refl

    pub where_ok : (found : Result RefsValue PackedError) → IsSound found → (refs : RefsValue) → AnswersWhere found (Ok refs) (IsReadAs kind text refs)
    where_ok found sound refs = record { told = λ e. subst IsSound e sound; always = always found sound refs }

    is_line : (found : Result RefsValue PackedError) → IsSound found → (place : ℕ) → IsNoLineAt kind text place → found ≡ Err (errors.Line place)
    is_line (Ok x) sound place h = absurd (read_line x place sound h)
    is_line (Err (errors.Line p)) sound place h = ap (λ (n : ℕ). Err (errors.Line n)) (same_lines p place sound h)
    is_line (Err (errors.Order p)) sound place h = absurd (line_order place p h sound)
    is_line (Err errors.NoMemory) sound place h = absurd (read_line sound.0 place sound.1 h)

    pub where_line : (found : Result RefsValue PackedError) → IsSound found → (place : ℕ) → (found ≡ Err (errors.Line place)) ↔ IsNoLineAt kind text place
    where_line found sound place = (λ e. subst IsSound e sound, is_line found sound place)

    is_order : (found : Result RefsValue PackedError) → IsSound found → (place : ℕ) → IsOutOfOrderAt kind text place → found ≡ Err (errors.Order place)
    is_order (Ok x) sound place h = absurd (read_order x place sound h)
    is_order (Err (errors.Line p)) sound place h = absurd (line_order p place sound h)
    is_order (Err (errors.Order p)) sound place h = ap (λ (n : ℕ). Err (errors.Order n)) (same_orders p place sound h)
    is_order (Err errors.NoMemory) sound place h = absurd (read_order sound.0 place sound.1 h)

    pub where_order : (found : Result RefsValue PackedError) → IsSound found → (place : ℕ) → (found ≡ Err (errors.Order place)) ↔ IsOutOfOrderAt kind text place
    where_order found sound place = (λ e. subst IsSound e sound, is_order found sound place)

-- what is written is read back
pub read_back : (kind : Kind) (list : PackedList) (answer : Result RefsValue PackedError) → AreEntries kind list → IsAnswer kind (packed_text list) answer ↔ (answer ≡ Ok (references_of kind list))
read_back kind list answer all =
    let read : IsAnswer kind (packed_text list) (Ok (references_of kind list)) = record { entries = all; whole = refl; alone = refl } in (
      λ h. one_answer kind (packed_text list) answer (Ok (references_of kind list)) h read,
      λ e. subst (IsAnswer kind (packed_text list)) (sym e) read,
    )
