-- The first line of a text.
use Rattle.std.proofs.Common.{◌≡◌, ℕ, zero, suc, ◌+◌, ◌-◌, ◌<◌, ◌≤◌, Bool, true, false, cond, not, ◌&&◌, eqb, ltb, List, [], ◌∷◌, length, take, drop, Some, None, refl, sym, ap, ◌∙◌, arith, length-drop}
use Rattle.std.specs.Prelude.{position, slice_index}
use Rattle.std.specs.List.{list_all, position_or_len, prefix_len, slice_split, onto_first}
use Rattle.std.specs.Str.Lines.{lines, lines_of_parts, strip_carriage_return}
use Rattle.std.proofs.lemmas.Bool.{and_parts, and_from, cond_both, cond-false, ne_eqb}
use Rattle.std.proofs.lemmas.List.{take_all, drop_all}
use Rattle.std.proofs.lemmas.List.Splits.{slice_split_first}
use Rattle.fetch_config.specs.Pieces.{IsWithout}

abbrev is_feed : ℕ → Bool
is_feed b = eqb b 10

-- There is always a first part.
pub parts_some : (text : List ℕ) → (x : List ℕ) × (xs : List (List ℕ)) × (slice_split is_feed text ≡ x ∷ xs)
parts_some [] = ([], [], refl)
parts_some (c ∷ cs) = by_test (eqb c 10) (slice_split is_feed cs) where
  by_test : (t : Bool) (parts : List (List ℕ)) → (x : List ℕ) × (xs : List (List ℕ)) × (cond t ([] ∷ parts) (onto_first c parts) ≡ x ∷ xs)
  by_test true parts = ([], parts, refl)
  by_test false [] = (c ∷ [], [], refl)
  by_test false (part ∷ parts) = (c ∷ part, parts, refl)

pub lines_of_more : (first x : List ℕ) (xs parts : List (List ℕ)) → parts ≡ x ∷ xs → lines_of_parts (first ∷ parts) ≡ strip_carriage_return first ∷ lines_of_parts parts
lines_of_more first x xs parts is = ap (λ ps. lines_of_parts (first ∷ ps)) is ∙ ap (λ ps. strip_carriage_return first ∷ lines_of_parts ps) (sym is)

found : (i : ℕ) (text : List ℕ) → (t : Bool) → ltb (position_or_len is_feed text) (length text) ≡ t → cond t (Some (position_or_len is_feed text)) None ≡ Some i → (position_or_len is_feed text ≡ i) × (t ≡ true)
found i text true lt e = (cc, refl)
found i text false lt e = absurd cc

pub lines_at : (i : ℕ) (text : List ℕ) → i < length text → Some i ≡ position is_feed text → lines text ≡ strip_carriage_return (take i text) ∷ lines (drop (i + 1) text)
lines_at i text lt e =
    let p = found i text (ltb (position_or_len is_feed text) (length text)) refl (sym e) in
    let some = parts_some (drop (i + 1) text) in
    let inside : position_or_len is_feed text < length text = omega (arith, p.0) in
    ap lines_of_parts (slice_split_first is_feed text 0 inside)
    ∙ ap (λ n. lines_of_parts (take n text ∷ slice_split is_feed (drop (n + 1) text))) p.0
    ∙ lines_of_more (take i text) some.0 some.1 (slice_split is_feed (drop (i + 1) text)) some.2

not_found : (text : List ℕ) → (t : Bool) → ltb (prefix_len (λ b. not (is_feed b)) text) (length text) ≡ t → cond t (Some (prefix_len (λ b. not (is_feed b)) text)) None ≡ None → t ≡ false
not_found text true lt e = absurd cc
not_found text false lt e = refl

record IsPart (text : List ℕ) : Type 0 where
  one : slice_split is_feed text ≡ text ∷ []
  no_feed : list_all (λ b. not (is_feed b)) text ≡ true

part_by_test : (c : ℕ) (cs : List ℕ) (t : Bool) → eqb c 10 ≡ t → (length cs ≤ prefix_len (λ b. not (is_feed b)) cs → IsPart cs) → suc (length cs) ≤ cond (not t) (1 + prefix_len (λ b. not (is_feed b)) cs) 0 → IsPart (c ∷ cs)
part_by_test c cs true is rest h = absurd (omega arith)
part_by_test c cs false is rest h =
    let r = rest (omega arith) in
    record {
      one = ap (λ t. cond t ([] ∷ slice_split is_feed cs) (onto_first c (slice_split is_feed cs))) is ∙ ap (onto_first c) r.one;
      no_feed = ap (λ t. not t && list_all (λ b. not (is_feed b)) cs) is ∙ r.no_feed;
    }

one_part : (text : List ℕ) → length text ≤ prefix_len (λ b. not (is_feed b)) text → IsPart text
one_part [] h = record { one = refl; no_feed = refl }
one_part (c ∷ cs) h = part_by_test c cs (eqb c 10) refl (one_part cs) h

pub record IsOneLine (text : List ℕ) : Type 0 where
  pub one : slice_split is_feed text ≡ text ∷ []
  pub no_feed : IsWithout 10 text

pub one_line : (text : List ℕ) → None ≡ position is_feed text → IsOneLine text
one_line text e =
    let n = prefix_len (λ b. not (is_feed b)) text in
    let t = not_found text (ltb n (length text)) refl (sym e) in
    let r = one_part text (grind arith) in
    record { one = r.one; no_feed = r.no_feed }

pub lines_one : (text : List ℕ) → 0 < length text → IsOneLine text → lines text ≡ text ∷ []
lines_one text some is = ap lines_of_parts is.one ∙ cond-false (eqb (length text) 0) [] (text ∷ []) (ne_eqb (length text) 0 (λ e. omega arith))

-- what stands before the first line feed
before_by_test : (c : ℕ) (cs : List ℕ) (t : Bool) → eqb c 10 ≡ t → IsWithout 10 (take (position_or_len is_feed cs) cs) → IsWithout 10 (take (cond (not t) (1 + prefix_len (λ b. not (is_feed b)) cs) 0) (c ∷ cs))
before_by_test c cs true e rest = refl
before_by_test c cs false e rest =
    let n = prefix_len (λ b. not (is_feed b)) cs in
    let one : 1 + n ≡ suc n = omega arith in
    ap (λ k. list_all (λ b. not (eqb b 10)) (take k (c ∷ cs))) one ∙ ap (λ t. not t && list_all (λ b. not (eqb b 10)) (take n cs)) e ∙ rest

without_before : (text : List ℕ) → IsWithout 10 (take (position_or_len is_feed text) text)
without_before [] = refl
without_before (c ∷ cs) = before_by_test c cs (eqb c 10) refl (without_before cs)

pub take-without : (n : ℕ) (p : ℕ → Bool) (xs : List ℕ) → list_all p xs ≡ true → list_all p (take n xs) ≡ true
take-without zero p xs h = refl
take-without (suc n) p [] h = refl
take-without (suc n) p (x ∷ xs) h = let b = and_parts (p x) (list_all p xs) h in and_from (p x) (list_all p (take n xs)) b.0 (take-without n p xs b.1)

pub without_at : (i : ℕ) (text : List ℕ) → Some i ≡ position is_feed text → IsWithout 10 (strip_carriage_return (take i text))
without_at i text e =
    let p = found i text (ltb (position_or_len is_feed text) (length text)) refl (sym e) in
    let front : IsWithout 10 (take i text) = ap (λ n. list_all (λ b. not (eqb b 10)) (take n text)) (sym p.0) ∙ without_before text in
    cond_both (eqb (slice_index (take i text) (length (take i text) - 1)) 13) (take (length (take i text) - 1) (take i text)) (take i text) (IsWithout 10) (λ _. take-without (length (take i text) - 1) (λ b. not (eqb b 10)) (take i text) front) (λ _. front)

-- what a range up to the end is
pub to_end : (k : ℕ) (xs : List ℕ) → take (length xs - k) (drop k xs) ≡ drop k xs
to_end k xs = take_all (length xs - k) (drop k xs) (omega (arith, length-drop k xs))

pub lines_nothing : (xs : List ℕ) → lines (take (length xs - length xs) (drop (length xs) xs)) ≡ []
lines_nothing xs = ap lines (to_end (length xs) xs ∙ drop_all (length xs) xs (omega arith))
