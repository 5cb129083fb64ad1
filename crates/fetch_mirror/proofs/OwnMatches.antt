-- A share maps each of its names to itself.
use Rattle.std.proofs.Common.{◌≡◌, ℕ, Bool, true, false, cond, ◌&&◌, ◌||◌, eqb, ltb, List, [], ◌∷◌, ◌++◌, length, map, Option, Some, None, Result, Err, refl, sym, ap, subst, ◌∙◌, arith, Contains, ⊎_elim, ◌⊎◌, inl, inr}
use Rattle.std.specs.Prelude.{◌↔◌, ◌%◌, ◌/◌, ◌==◌, is_some, slice_get, option_and_then, IsTrue}
use Rattle.std.specs.Option.{option_map}
use Rattle.std.specs.Result.{result_ok}
use Rattle.std.specs.Str.{bytes_eq}
use Rattle.std.proofs.lemmas.Bool.{ltb-true}
use Rattle.std.proofs.lemmas.Option.{slice_get-map}
use Rattle.std.proofs.lemmas.Slice.Eq.{bytes_eq-Decides}
use Rattle.hex.specs.Hex.{decode_pairs, decode_sized}
use Rattle.hex.specs.declared.error.FromHexError.{FromHexError}
use Rattle.hex.specs.declared.error.FromHexError.TheVariants.{InvalidHexCharacter, OddLength, InvalidStringLength}
use Rattle.fetch_base.specs.Id.{id_of_bytes, byte_len, id_in_hex}
use Rattle.fetch_base.specs.declared.id.Kind.{Kind}
use Rattle.fetch_base.specs.declared.id.Kind.TheVariants as kinds
use Rattle.fetch_base.specs.declared.id.ObjectId.{ObjectId}
use Rattle.fetch_specs.specs.Categories.{refs}
use Rattle.fetch_specs.specs.Made.{IsMapping, IsFirst, mapping_at, comes_before}
use Rattle.fetch_specs.specs.Matches.{has_star, front_of, back_of, between, short_heads, short_tags, short_remotes, is_full, is_expansion, where_true, taken, missing_front, completed, is_excluded, id_mapping, id_match, mapping_unless, name_match, leading, is_same, mappings_of}
use Rattle.fetch_specs.specs.Parses.{head, id_named}
use Rattle.fetch_specs.specs.declared.found.Match.{Match}
use Rattle.fetch_specs.specs.declared.found.SourceRef.TheVariants as sources
use Rattle.fetch_specs.proofs.Places.{each_mapping}
use Rattle.fetch_mirror.specs.Shares.{as_itself, IsUnderRefs, AreOnce, AreOwnNames, IsOwnMatch}
use Rattle.fetch_mirror.proofs.PlainNames.{full_is_plain}

-- ---- a name under `refs/` is no id

abbrev refused : FromHexError → Result (List ℕ) FromHexError
refused e = Err e

none_by : (a b : Bool) (x y z : FromHexError) → result_ok (cond a (refused x) (cond b (refused y) (refused z))) ≡ None
none_by true b x y z = refl
none_by false true x y z = refl
none_by false false x y z = refl

no_hex : (rest : List ℕ) (n : ℕ) → result_ok (decode_sized (refs ++ rest) n) ≡ None
unfolding decode_pairs refs
no_hex rest n = none_by (length (refs ++ rest) % 2 == 1) (length (refs ++ rest) / 2 == n) OddLength (InvalidHexCharacter 114 0) InvalidStringLength

no_id_in : (kind : Kind) (rest : List ℕ) → id_in_hex kind (refs ++ rest) ≡ None
no_id_in kind rest = ap (option_map (id_of_bytes kind)) (no_hex rest (byte_len kind))

pub no_id : (name : List ℕ) → IsUnderRefs name → id_named name ≡ None
unfolding id_named
no_id name u = ap id_named u.is ∙ rw (no_id_in kinds.Sha1 u.rest) (no_id_in kinds.Sha256 u.rest)

-- ---- what it takes, and where to

full_one : (name : List ℕ) → IsUnderRefs name → is_full name ≡ true
unfolding refs
full_one name u = ap is_full u.is ∙ or_true (bytes_eq (refs ++ u.rest) head)
  where
    or_true : (t : Bool) → (t || true) ≡ true
    or_true true = refl
    or_true false = refl

pub takes_itself : (own name : List ℕ) → IsUnderRefs own → taken own name ≡ where_true (bytes_eq own name)
takes_itself own name u =
    ap (λ (t : Bool). cond t (between (front_of own) (back_of own) name) (where_true (cond (is_full own) (bytes_eq own name) (is_expansion own name)))) (full_is_plain own u.full).no_star
    ∙ ap (λ (t : Bool). where_true (cond t (bytes_eq own name) (is_expansion own name))) (full_one own u)

nothing_missing : (rest : List ℕ) → missing_front (refs ++ rest) ≡ []
unfolding refs short_heads short_tags short_remotes
nothing_missing rest = refl

complete : (name : List ℕ) → IsUnderRefs name → completed name ≡ name
complete name u = ap (λ (front : List ℕ). front ++ name) (ap missing_front u.is ∙ nothing_missing u.rest)

none_excluded : (names : List (List ℕ)) (name : List ℕ) → is_excluded (map as_itself names) name ≡ false
none_excluded [] name = refl
none_excluded (own ∷ names) name = none_excluded names name

-- with itself alone
matched : (names : List (List ℕ)) (i j : ℕ) (own name : List ℕ) → IsUnderRefs own → (t : Bool) → bytes_eq own name ≡ t → name_match (map as_itself names) i (as_itself own) j name ≡ cond t (Some (leading i j own own)) None
matched names i j own name u t is = at_middle ∙ by t is
  where
    at_middle : name_match (map as_itself names) i (as_itself own) j name ≡ mapping_unless false i (as_itself own) j name (where_true (bytes_eq own name))
    at_middle = ap (mapping_unless (is_excluded (map as_itself names) name) i (as_itself own) j name) (takes_itself own name u)
        ∙ ap (λ (t : Bool). mapping_unless t i (as_itself own) j name (where_true (bytes_eq own name))) (none_excluded names name)

    star : has_star own ≡ false
    star = (full_is_plain own u.full).no_star

    to : own ≡ name → mapping_unless false i (as_itself own) j name (Some []) ≡ Some (leading i j own own)
    to same =
        ap (λ (o : Option ObjectId). cond (is_some o || false) None (Some (record { lhs = sources.FullName name; rhs = Some (completed (cond (has_star own) (front_of own ++ [] ++ back_of own) own)); item_index = Some j; spec_index = i }))) (no_id own u)
        ∙ ap (λ (t : Bool). Some (record { lhs = sources.FullName name; rhs = Some (completed (cond t (front_of own ++ [] ++ back_of own) own)); item_index = Some j; spec_index = i })) star
        ∙ ap (λ (l : List ℕ). Some (record { lhs = sources.FullName name; rhs = Some l; item_index = Some j; spec_index = i })) (complete own u)
        ∙ ap (λ (l : List ℕ). Some (record { lhs = sources.FullName l; rhs = Some own; item_index = Some j; spec_index = i })) (sym same)

    by : (t : Bool) → bytes_eq own name ≡ t → mapping_unless false i (as_itself own) j name (where_true (bytes_eq own name)) ≡ cond t (Some (leading i j own own)) None
    by true is = ap (λ (t : Bool). mapping_unless false i (as_itself own) j name (where_true t)) is ∙ to ((bytes_eq-Decides own name).0 is)
    by false is = ap (λ (t : Bool). mapping_unless false i (as_itself own) j name (where_true t)) is

no_id_match : (kind : Kind) (i : ℕ) (own : List ℕ) → IsUnderRefs own → id_match kind i (as_itself own) ≡ None
no_id_match kind i own u = ap (id_mapping kind i (as_itself own)) (no_id own u)

-- ---- matches that are made

-- a match is made at these places
record IsAt (names listed : List (List ℕ)) (i : ℕ) (m : Match) : Type 0 where
  own : List ℕ
  item : ℕ
  shared : slice_get names i ≡ Some own
  told : slice_get listed item ≡ Some own
  is : m ≡ leading i item own own

some_same : (a b : Match) → Some a ≡ Some b → a ≡ b
some_same a b is = cc

made_by : (names listed : List (List ℕ)) (i j : ℕ) (own name : List ℕ) (m : Match) → IsUnderRefs own → slice_get names i ≡ Some own → slice_get listed j ≡ Some name
    → name_match (map as_itself names) i (as_itself own) j name ≡ Some m → IsAt names listed i m
made_by names listed i j own name m u at there made = by (bytes_eq own name) refl
  where
    by : (t : Bool) → bytes_eq own name ≡ t → IsAt names listed i m
    by true is =
        let same = (bytes_eq-Decides own name).0 is in
        record { own = own; item = j; shared = at; told = there ∙ ap (λ (l : List ℕ). Some l) (sym same); is = some_same m (leading i j own own) (sym made ∙ matched names i j own name u true is) }
    by false is = absurd (let none = sym made ∙ matched names i j own name u false is in cc)

in_list : (names listed : List (List ℕ)) → AreOwnNames names → (i j : ℕ) (n : List ℕ) (m : Match) (o : Option (List ℕ)) → slice_get names i ≡ Some n → slice_get listed j ≡ o
    → option_and_then (λ name. name_match (map as_itself names) i (as_itself n) j name) o ≡ Some m → IsAt names listed i m
in_list names listed own i j n m None at there made = absurd cc
in_list names listed own i j n m (Some name) at there made = made_by names listed i j n name m (own.under i n at) at there made

of_item : (names listed : List (List ℕ)) → AreOwnNames names → (i j : ℕ) (m : Match) (o : Option (List ℕ)) → slice_get names i ≡ o
    → option_and_then (λ spec. option_and_then (λ name. name_match (map as_itself names) i spec j name) (slice_get listed j)) (option_map as_itself o) ≡ Some m → IsAt names listed i m
of_item names listed own i j m None at made = absurd cc
of_item names listed own i j m (Some n) at made = in_list names listed own i j n m (slice_get listed j) at refl made

of_id : (names listed : List (List ℕ)) (kind : Kind) → AreOwnNames names → (i : ℕ) (m : Match) (o : Option (List ℕ)) → slice_get names i ≡ o → option_and_then (λ spec. id_match kind i spec) (option_map as_itself o) ≡ Some m → IsAt names listed i m
of_id names listed kind own i m None at made = absurd cc
of_id names listed kind own i m (Some n) at made = absurd (let none = sym made ∙ no_id_match kind i n (own.under i n at) in cc)

made_at : (names listed : List (List ℕ)) (kind : Kind) → AreOwnNames names → (i : ℕ) (item : Option ℕ) (m : Match) → mapping_at (map as_itself names) listed kind i item ≡ Some m → IsAt names listed i m
made_at names listed kind own i None m made =
    of_id names listed kind own i m (slice_get names i) refl (ap (option_and_then (λ spec. id_match kind i spec)) (sym (slice_get-map as_itself names i)) ∙ made)
made_at names listed kind own i (Some j) m made =
    of_item names listed own i j m (slice_get names i) refl
    (ap (option_and_then (λ spec. option_and_then (λ name. name_match (map as_itself names) i spec j name) (slice_get listed j))) (sym (slice_get-map as_itself names i)) ∙ made)

makes : (names listed : List (List ℕ)) (kind : Kind) → AreOwnNames names → (i j : ℕ) (own : List ℕ) → slice_get names i ≡ Some own → slice_get listed j ≡ Some own → mapping_at (map as_itself names) listed kind i (Some j) ≡ Some (leading i j own own)
makes names listed kind owns i j own at there =
    ap (option_and_then (λ spec. option_and_then (λ name. name_match (map as_itself names) i spec j name) (slice_get listed j))) (slice_get-map as_itself names i ∙ ap (option_map as_itself) at)
    ∙ ap (option_and_then (λ name. name_match (map as_itself names) i (as_itself own) j name)) there
    ∙ matched names i j own own (owns.under i own at) true ((bytes_eq-Decides own own).1 refl)

-- ---- each is the first

first_one : (names listed : List (List ℕ)) (kind : Kind) → AreOwnNames names → AreOnce listed → (i j : ℕ) (own : List ℕ) → slice_get names i ≡ Some own → slice_get listed j ≡ Some own
    → IsFirst (IsMapping (map as_itself names) listed kind) true (leading i j own own)
first_one names listed kind owns once i j own at there = (makes names listed kind owns i j own at there, λ other made before. of other (made_at names listed kind owns other.spec_index other.item_index other made) before)
  where
    before_itself : (t : Bool) → t ≡ false → (t || (eqb i i && ltb j j)) ≡ true → ⊥
    before_itself true is so = absurd cc
    before_itself false is so = by (eqb i i) so
      where
        by : (u : Bool) → (u && ltb j j) ≡ true → ⊥
        by true so = absurd (let h = ltb-true j j so in omega arith)
        by false so = absurd cc

    not_below : ltb i i ≡ false
    not_below = by (ltb i i) refl
      where
        by : (t : Bool) → ltb i i ≡ t → t ≡ false
        by true is = absurd (let h = ltb-true i i is in omega arith)
        by false is = refl

    apart : (n : List ℕ) → (n ≡ own → ⊥) → is_same true (leading 0 0 n n) (leading i j own own) ≡ false
    apart n other = by (bytes_eq n own) refl
      where
        by : (t : Bool) → bytes_eq n own ≡ t → (t && bytes_eq (0 ∷ n) (0 ∷ own)) ≡ false
        by true is = absurd (other ((bytes_eq-Decides n own).0 is))
        by false is = refl

    of : (other : Match) → IsAt names listed other.spec_index other → IsTrue (comes_before other (leading i j own own)) → is_same true other (leading i j own own) ≡ false
    of other o before = ⊎_elim
        (λ (same : o.own ≡ own).
        let i_is = owns.once other.spec_index i own (o.shared ∙ ap (λ (l : List ℕ). Some l) same) at in
        let j_is = once o.item j own (o.told ∙ ap (λ (l : List ℕ). Some l) same) there in
        let it : other ≡ leading i j own own = o.is ∙ ap (λ (l : List ℕ). leading other.spec_index o.item l l) same ∙ ap (λ (k : ℕ). leading k o.item own own) i_is ∙ ap (λ (k : ℕ). leading i k own own) j_is in
        absurd (before_itself (ltb i i) not_below (subst (λ (m : Match). IsTrue (comes_before m (leading i j own own))) it before)))
        (λ (other_name : o.own ≡ own → ⊥). ap (λ (m : Match). is_same true m (leading i j own own)) o.is ∙ apart o.own other_name)
        (cases_names o.own own)
      where
        cases_names : (a b : List ℕ) → (a ≡ b) ⊎ (a ≡ b → ⊥)
        cases_names a b = by (bytes_eq a b) refl
          where
            by : (t : Bool) → bytes_eq a b ≡ t → (a ≡ b) ⊎ (a ≡ b → ⊥)
            by true is = inl ((bytes_eq-Decides a b).0 is)
            by false is = inr (λ same. let yes = (bytes_eq-Decides a b).1 same in absurd cc)

pub own_matches : (names listed : List (List ℕ)) (kind : Kind) (m : Match) → AreOwnNames names → AreOnce listed → Contains (mappings_of (map as_itself names) listed kind) m ↔ IsOwnMatch names listed m
own_matches names listed kind m owns once = (
  λ there.
      let at = made_at names listed kind owns m.spec_index m.item_index m ((each_mapping (map as_itself names) listed kind m).0 there).0 in
      record { name = at.own; item = at.item; shared = at.shared; told = at.told; is = at.is },
  λ own.
      let first = first_one names listed kind owns once m.spec_index own.item own.name own.shared own.told in
      (each_mapping (map as_itself names) listed kind m).1 (subst (IsFirst (IsMapping (map as_itself names) listed kind) true) (sym own.is) first),
)
