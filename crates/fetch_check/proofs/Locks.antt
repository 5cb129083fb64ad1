-- A path, and the one beside it.
use Rattle.std.proofs.Common.{◌≡◌, ℕ, suc, ◌+◌, ◌-◌, ◌≤◌, ◌<◌, ◌==◌, Bool, true, false, cond, not, ◌&&◌, List, [], ◌∷◌, ◌++◌, length, take, map, codes, append_assoc, append-nil, length-append, reverse, refl, sym, ap, subst, ◌∙◌, arith}
use Rattle.std.specs.Prelude.{filter}
use Rattle.std.specs.List.{list_all, slice_split, onto_first, prefix_len}
use Rattle.std.proofs.lemmas.List.{take-append-le, take_all, reverse-append, reverse-reverse, length-reverse}
use Rattle.fetch_base.specs.Lines.{IsWithout}
use Rattle.fetch_files.specs.Paths.{Path, is_part, parts_of, parents_of}
use Rattle.fetch_check.specs.Keeping.{lock_of, without_slashes}

abbrev is_slash : ℕ → Bool
is_slash c = c == 47

abbrev pieces : List ℕ → List (List ℕ)
pieces = slice_split is_slash

-- ---- what stands behind the last piece

abbrev onto_last : List ℕ → List (List ℕ) → List (List ℕ)
onto_last s [] = s ∷ []
onto_last s (p ∷ []) = (p ++ s) ∷ []
onto_last s (p ∷ q ∷ ps) = p ∷ onto_last s (q ∷ ps)

-- there is a piece
pub record HasFirst (text : List ℕ) : Type 0 where
  pub first : List ℕ
  pub others : List (List ℕ)
  pub is : pieces text ≡ first ∷ others

has_first : (text : List ℕ) → HasFirst text
has_first [] = record { first = []; others = []; is = refl }
has_first (x ∷ text) = by_test (has_first text) (is_slash x) refl
  where
    by_test : HasFirst text → (b : Bool) → is_slash x ≡ b → HasFirst (x ∷ text)
    by_test h true e = record { first = []; others = pieces text; is = ap (λ (b : Bool). cond b ([] ∷ pieces text) (onto_first x (pieces text))) e }
    by_test h false e = record {
      first = x ∷ h.first;
      others = h.others;
      is = ap (λ (b : Bool). cond b ([] ∷ pieces text) (onto_first x (pieces text))) e ∙ ap (onto_first x) h.is;
    }

first_last : (x : ℕ) (s p : List ℕ) (ps : List (List ℕ)) → onto_first x (onto_last s (p ∷ ps)) ≡ onto_last s (onto_first x (p ∷ ps))
first_last x s p [] = refl
first_last x s p (q ∷ ps) = refl

empty_last : (s p : List ℕ) (ps : List (List ℕ)) → [] ∷ onto_last s (p ∷ ps) ≡ onto_last s ([] ∷ p ∷ ps)
empty_last s p ps = refl

and_two : (a b : Bool) → (a && b) ≡ true → (a ≡ true) × (b ≡ true)
and_two true b e = (refl, e)
and_two false b e = absurd cc

not_true : (b : Bool) → not b ≡ true → b ≡ false
not_true true e = absurd cc
not_true false e = refl

one_piece : (s : List ℕ) → IsWithout 47 s → pieces s ≡ s ∷ []
one_piece [] plain = refl
one_piece (x ∷ s) plain =
    let t = and_two (not (is_slash x)) (list_all (λ b. not (b == 47)) s) plain in
    ap (λ (b : Bool). cond b ([] ∷ pieces s) (onto_first x (pieces s))) (not_true (is_slash x) t.0) ∙ ap (onto_first x) (one_piece s t.1)

pieces_more : (text s : List ℕ) → IsWithout 47 s → pieces (text ++ s) ≡ onto_last s (pieces text)
pieces_more [] s plain = one_piece s plain
pieces_more (x ∷ text) s plain = by_test (pieces_more text s plain) (has_first text) (is_slash x)
  where
    by_test : pieces (text ++ s) ≡ onto_last s (pieces text) → HasFirst text → (b : Bool) → cond b ([] ∷ pieces (text ++ s)) (onto_first x (pieces (text ++ s))) ≡ onto_last s (cond b ([] ∷ pieces text) (onto_first x (pieces text)))
    by_test h f true =
        ap (λ (ps : List (List ℕ)). [] ∷ ps) (h ∙ ap (onto_last s) f.is) ∙ empty_last s f.first f.others ∙ ap (λ (ps : List (List ℕ)). onto_last s ([] ∷ ps)) (sym f.is)
    by_test h f false =
        ap (onto_first x) (h ∙ ap (onto_last s) f.is) ∙ first_last x s f.first f.others ∙ ap (λ (ps : List (List ℕ)). onto_last s (onto_first x ps)) (sym f.is)

-- ---- parts

first_part : (p : List ℕ) (ps : List (List ℕ)) → filter is_part (p ∷ ps) ≡ filter is_part (p ∷ []) ++ filter is_part ps
first_part [] ps = refl
first_part (c ∷ p) ps = refl

some_part : (p s : List ℕ) (c : ℕ) → filter is_part ((p ++ c ∷ s) ∷ []) ≡ (p ++ c ∷ s) ∷ []
some_part [] s c = refl
some_part (x ∷ p) s c = refl

-- the parts before the last piece, and that piece
abbrev before_last : List ℕ → List (List ℕ) → Path
before_last p [] = []
before_last p (q ∷ ps) = filter is_part (p ∷ []) ++ before_last q ps

abbrev last_piece : List ℕ → List (List ℕ) → List ℕ
last_piece p [] = p
last_piece p (q ∷ ps) = last_piece q ps

last_part : (p : List ℕ) (ps : List (List ℕ)) (c : ℕ) (s : List ℕ) → filter is_part (onto_last (c ∷ s) (p ∷ ps)) ≡ before_last p ps ++ (last_piece p ps ++ c ∷ s) ∷ []
last_part p [] c s = some_part p s c
last_part p (q ∷ ps) c s =
    first_part p (onto_last (c ∷ s) (q ∷ ps)) ∙ ap (λ (xs : Path). filter is_part (p ∷ []) ++ xs) (last_part q ps c s)
    ∙ sym (append_assoc (filter is_part (p ∷ [])) (before_last q ps) ((last_piece q ps ++ c ∷ s) ∷ []))

-- ---- slashes at the end

abbrev AreSlashes : List ℕ → Type 0
AreSlashes s = list_all is_slash s ≡ true

empties : (s : List ℕ) → AreSlashes s → pieces s ≡ [] ∷ map (λ (c : ℕ). []) s
empties [] all = refl
empties (x ∷ s) all =
    let t = and_two (is_slash x) (list_all is_slash s) all in
    ap (λ (b : Bool). cond b ([] ∷ pieces s) (onto_first x (pieces s))) t.0 ∙ ap (λ (ps : List (List ℕ)). [] ∷ ps) (empties s t.1)

with_slashes : (text s : List ℕ) → AreSlashes s → pieces (text ++ s) ≡ pieces text ++ map (λ (c : ℕ). []) s
with_slashes [] s all = empties s all
with_slashes (x ∷ text) s all = by_test (with_slashes text s all) (has_first text) (is_slash x)
  where
    E : List (List ℕ)
    E = map (λ (c : ℕ). []) s

    by_test : pieces (text ++ s) ≡ pieces text ++ map (λ (c : ℕ). []) s → HasFirst text → (b : Bool)
        → cond b ([] ∷ pieces (text ++ s)) (onto_first x (pieces (text ++ s))) ≡ cond b ([] ∷ pieces text) (onto_first x (pieces text)) ++ map (λ (c : ℕ). []) s
    by_test h f true = ap (λ (ps : List (List ℕ)). [] ∷ ps) h
    by_test h f false =
        ap (onto_first x) (h ∙ ap (λ (ps : List (List ℕ)). ps ++ map (λ (c : ℕ). []) s) f.is) ∙ ap (λ (ps : List (List ℕ)). onto_first x ps ++ map (λ (c : ℕ). []) s) (sym f.is)

no_parts : (ps : List (List ℕ)) (s : List ℕ) → filter is_part (ps ++ map (λ (c : ℕ). []) s) ≡ filter is_part ps
no_parts [] [] = refl
no_parts [] (x ∷ s) = no_parts [] s
no_parts (p ∷ ps) s = first_part p (ps ++ map (λ (c : ℕ). []) s) ∙ ap (λ (xs : Path). filter is_part (p ∷ []) ++ xs) (no_parts ps s) ∙ sym (first_part p ps)

parts_slashes : (text s : List ℕ) → AreSlashes s → parts_of (text ++ s) ≡ parts_of text
parts_slashes text s all = ap (filter is_part) (with_slashes text s all) ∙ no_parts (pieces text) s

-- ---- the path without them

-- empty, or something else than a slash is at the end
pub data EndsPlain : List ℕ → Type 0 where
  empty : EndsPlain []
  ends : (before : List ℕ) (c : ℕ) → is_slash c ≡ false → EndsPlain (before ++ c ∷ [])

-- a text, with the slashes at its end
pub record Trimmed (text front : List ℕ) : Type 0 where
  pub slashes : List ℕ
  pub all : AreSlashes slashes
  pub is : text ≡ front ++ slashes
  pub plain : EndsPlain front

slashes_more : (s : List ℕ) (c : ℕ) → AreSlashes s → is_slash c ≡ true → AreSlashes (s ++ c ∷ [])
slashes_more [] c all is = ap (λ (b : Bool). b && true) is
slashes_more (x ∷ s) c all is =
    let t = and_two (is_slash x) (list_all is_slash s) all in ap (λ (b : Bool). b && list_all is_slash (s ++ c ∷ [])) t.0 ∙ slashes_more s c t.1 is

last_first : (c : ℕ) (r : List ℕ) → reverse (c ∷ r) ≡ reverse r ++ c ∷ []
last_first c r = reverse-append (c ∷ []) r

few : (r : List ℕ) → prefix_len is_slash r ≤ length r
few [] = omega arith
few (c ∷ r) = by_test (few r) (is_slash c)
  where
    by_test : prefix_len is_slash r ≤ length r → (b : Bool) → cond b (1 + prefix_len is_slash r) 0 ≤ suc (length r)
    by_test h true = omega arith
    by_test h false = omega arith

abbrev front_by : ℕ → List ℕ → List ℕ
front_by n text = take (length text - n) text

trimmed : (r : List ℕ) → Trimmed (reverse r) (front_by (prefix_len is_slash r) (reverse r))
trimmed [] = record { slashes = []; all = refl; is = refl; plain = empty }
trimmed (c ∷ r) = by_test (trimmed r) (is_slash c) refl
  where
    text : List ℕ
    text = reverse r

    by_test : Trimmed (reverse r) (front_by (prefix_len is_slash r) (reverse r)) → (b : Bool) → is_slash c ≡ b → Trimmed (reverse (c ∷ r)) (front_by (cond b (1 + prefix_len is_slash r) 0) (reverse (c ∷ r)))
    by_test h true is =
        let n = length-append (reverse r) (c ∷ []) in
        let m = length-reverse r in
        let k = few r in
        let count : length (reverse r ++ c ∷ []) - (1 + prefix_len is_slash r) ≡ length (reverse r) - prefix_len is_slash r = omega arith in
        let le : length (reverse r) - prefix_len is_slash r ≤ length (reverse r) = omega arith in
        let front : front_by (1 + prefix_len is_slash r) (reverse (c ∷ r)) ≡ front_by (prefix_len is_slash r) (reverse r) =
        ap (front_by (1 + prefix_len is_slash r)) (last_first c r) ∙ ap (λ (i : ℕ). take i (reverse r ++ c ∷ [])) count ∙ take-append-le (length (reverse r) - prefix_len is_slash r) (reverse r) (c ∷ []) le in
        record {
          slashes = h.slashes ++ c ∷ [];
          all = slashes_more h.slashes c h.all is;
          is = last_first c r ∙ ap (λ (t : List ℕ). t ++ c ∷ []) h.is ∙ append_assoc (front_by (prefix_len is_slash r) (reverse r)) h.slashes (c ∷ []) ∙ ap (λ (t : List ℕ). t ++ (h.slashes ++ c ∷ [])) (sym front);
          plain = subst EndsPlain (sym front) h.plain;
        }
    by_test h false is =
        let all : front_by 0 (reverse (c ∷ r)) ≡ reverse (c ∷ r) = take_all (length (reverse (c ∷ r)) - 0) (reverse (c ∷ r)) (omega arith) in
        record {
          slashes = [];
          all = refl;
          is = sym all ∙ sym (append-nil (front_by 0 (reverse (c ∷ r))));
          plain = subst EndsPlain (sym (all ∙ last_first c r)) (ends (reverse r) c is);
        }

pub trims : (path : List ℕ) → Trimmed path (without_slashes path)
trims path = subst (λ (text : List ℕ). Trimmed text (front_by (prefix_len is_slash (reverse path)) text)) (reverse-reverse path) (trimmed (reverse path))

-- ---- a path, and the one beside it

-- both are the root's, or both have the same parts but the last one, which differs
pub data AreBeside : Path → Path → Type 0 where
  of_root : (x : List ℕ) → AreBeside [] (x ∷ [])
  of_part : (above : Path) (x y : List ℕ) → length x < length y → AreBeside (above ++ x ∷ []) (above ++ y ∷ [])

plain_lock : IsWithout 47 (codes ".lock")
plain_lock = refl

plain_more : (c : ℕ) (s : List ℕ) → is_slash c ≡ false → IsWithout 47 s → IsWithout 47 (c ∷ s)
plain_more c s other plain = ap (λ (b : Bool). not b && list_all (λ b. not (b == 47)) s) other ∙ plain

beside_front : (front : List ℕ) → EndsPlain front → AreBeside (parts_of front) (parts_of (front ++ codes ".lock"))
beside_front [] empty = of_root (codes ".lock")
beside_front _ (ends before c other) =
    let f = has_first before in
    let one : parts_of (before ++ c ∷ []) ≡ before_last f.first f.others ++ (last_piece f.first f.others ++ c ∷ []) ∷ [] =
    ap (filter is_part) (pieces_more before (c ∷ []) (plain_more c [] other refl) ∙ ap (onto_last (c ∷ [])) f.is) ∙ last_part f.first f.others c [] in
    let two : parts_of ((before ++ c ∷ []) ++ codes ".lock") ≡ before_last f.first f.others ++ (last_piece f.first f.others ++ c ∷ codes ".lock") ∷ [] =
    ap parts_of (append_assoc before (c ∷ []) (codes ".lock")) ∙ ap (filter is_part) (pieces_more before (c ∷ codes ".lock") (plain_more c (codes ".lock") other plain_lock) ∙ ap (onto_last (c ∷ codes ".lock")) f.is)
    ∙ last_part f.first f.others c (codes ".lock") in
    let n = length-append (last_piece f.first f.others) (c ∷ []) in
    let m = length-append (last_piece f.first f.others) (c ∷ codes ".lock") in
    subst (λ (p : Path). AreBeside p (parts_of ((before ++ c ∷ []) ++ codes ".lock"))) (sym one)
    (subst (λ (q : Path). AreBeside (before_last f.first f.others ++ (last_piece f.first f.others ++ c ∷ []) ∷ []) q) (sym two)
    (of_part (before_last f.first f.others) (last_piece f.first f.others ++ c ∷ []) (last_piece f.first f.others ++ c ∷ codes ".lock") (omega arith)))

pub beside : (path : List ℕ) → AreBeside (parts_of path) (parts_of (lock_of path))
beside path =
    let t = trims path in
    let same : parts_of path ≡ parts_of (without_slashes path) = ap parts_of t.is ∙ parts_slashes (without_slashes path) t.slashes t.all in
    subst (λ (p : Path). AreBeside p (parts_of (lock_of path))) (sym same) (beside_front (without_slashes path) t.plain)

-- the paths above both are the same
pub same_parents : (above : Path) (x y : List ℕ) → parents_of (above ++ x ∷ []) ≡ parents_of (above ++ y ∷ [])
same_parents [] x y = refl
same_parents (part ∷ above) x y = ap (λ (ps : List Path). [] ∷ map (λ p. part ∷ p) ps) (same_parents above x y)
