-- The parts of a path, found one after another.
use Rattle.std.proofs.Common.{◌≡◌, ℕ, Bool, true, false, cond, not, ◌&&◌, List, [], ◌∷◌, ◌++◌, Option, Some, None, refl, sym, ap, ◌∙◌, ◌⊎◌, inl, inr, length, take, map, ◌<◌, ◌+◌, zero, suc, arith}
use Rattle.std.specs.Prelude.{◌==◌, filter}
use Rattle.std.specs.List.{list_all, slice_split}
use Rattle.std.specs.Option.{option_and_then}
use Rattle.std.specs.Cmp.Lexicographic.{slice_cmp, texts_ties}
use Rattle.std.specs.Ordering.{nat_cmp, is_eq, ordering_then}
use Rattle.std.specs.Str.{bytes_eq}
use Rattle.std.specs.declared.cmp.Ordering.{Ordering}
use Rattle.std.specs.declared.cmp.Ordering.TheVariants.{Less, Equal, Greater}
use Rattle.std.proofs.lemmas.Bool.{eqb-true}
use Rattle.std.proofs.lemmas.Grind.{common_steps}
use Rattle.fetch_base.specs.Scan.{split_first}
use Rattle.fetch_base.specs.Lines.{IsWithout}
use Rattle.fetch_files.specs.Paths.{Path, path_cmp, is_part, is_same_path, parts_of, parents_of, after_path}
use Rattle.fetch_base.proofs.LineLaws.{splits}

abbrev pieces : List ℕ → List (List ℕ)
pieces = slice_split (λ c. c == 47)

both : (a b : Bool) → (a && b) ≡ true → (a ≡ true) × (b ≡ true)
both true b e = (refl, e)
both false b e = absurd cc

not_slash : (t : Bool) → not t ≡ true → t ≡ false
not_slash true e = cc
not_slash false e = refl

step : (b : ℕ) (bytes : List ℕ) (piece : List ℕ) (others : List (List ℕ)) (t : Bool) → (b == 47) ≡ t → t ≡ false → pieces bytes ≡ piece ∷ others → pieces (b ∷ bytes) ≡ (b ∷ piece) ∷ others
step b bytes piece others true is other h = cc
step b bytes piece others false is other h = rw (is, h) refl

front : (piece rest : List ℕ) → IsWithout 47 piece → pieces (piece ++ 47 ∷ rest) ≡ piece ∷ pieces rest
front [] rest none = refl
front (b ∷ piece) rest none =
    let t = both (not (b == 47)) (list_all (λ c. not (c == 47)) piece) none in
    step b (piece ++ 47 ∷ rest) piece (pieces rest) (b == 47) refl (not_slash (b == 47) t.0) (front piece rest t.1)

one : (text : List ℕ) → IsWithout 47 text → pieces text ≡ text ∷ []
one [] none = refl
one (b ∷ text) none =
    let t = both (not (b == 47)) (list_all (λ c. not (c == 47)) text) none in
    step b text text [] (b == 47) refl (not_slash (b == 47) t.0) (one text t.1)

abbrev HasSlash : List ℕ → Type 0
HasSlash text = (before : List ℕ) × (behind : List ℕ) × (text ≡ before ++ 47 ∷ behind) × IsWithout 47 before

more_by : (b : ℕ) (text : List ℕ) (t : Bool) → (b == 47) ≡ t → IsWithout 47 text ⊎ HasSlash text → IsWithout 47 (b ∷ text) ⊎ HasSlash (b ∷ text)
more_by b text true is other = inr ([], text, ap (λ (c : ℕ). c ∷ text) (eqb-true _ _ is), refl)
more_by b text false is (inl none) = inl (rw is none)
more_by b text false is (inr (before, behind, whole, none)) = inr (b ∷ before, behind, ap (λ (l : List ℕ). b ∷ l) whole, rw is none)

without_or_slash : (text : List ℕ) → IsWithout 47 text ⊎ HasSlash text
without_or_slash [] = inl refl
without_or_slash (b ∷ text) = more_by b text (b == 47) refl (without_or_slash text)

first_part : (piece : List ℕ) (others : List (List ℕ)) → filter is_part (piece ∷ others) ≡ filter is_part (piece ∷ []) ++ filter is_part others
first_part [] others = refl
first_part (c ∷ piece) others = refl

pub parts-some : (text piece rest : List ℕ) → split_first 47 text ≡ Some (piece, rest) → parts_of text ≡ filter is_part (piece ∷ []) ++ parts_of rest
parts-some text piece rest e =
    let s = (splits 47 text).found piece rest e in
    ap (filter is_part) (ap pieces s.0 ∙ front piece rest s.1) ∙ first_part piece (pieces rest)

none_by : (text : List ℕ) → split_first 47 text ≡ None → IsWithout 47 text ⊎ HasSlash text → pieces text ≡ text ∷ []
none_by text e (inl none) = one text none
none_by text e (inr (before, behind, whole, none)) = let s = (splits 47 text).only before behind whole none in absurd cc

pub parts-none : (text : List ℕ) → split_first 47 text ≡ None → parts_of text ≡ filter is_part (text ∷ []) ++ []
parts-none text e = ap (filter is_part) (none_by text e (without_or_slash text)) ∙ first_part text []

-- what follows two paths, one after the other
pub after-append : (a b path : Path) → after_path (a ++ b) path ≡ option_and_then (after_path b) (after_path a path)
after-append [] b path = refl
after-append (part ∷ a) b [] = refl
after-append (part ∷ a) b (first ∷ path) = by_test (bytes_eq part first) (after-append a b path)
  where
    by_test : (t : Bool) → after_path (a ++ b) path ≡ option_and_then (after_path b) (after_path a path)
        → cond t (after_path (a ++ b) path) None ≡ option_and_then (after_path b) (cond t (after_path a path) None)
    by_test true e = e
    by_test false e = refl

-- nothing is after a path that is the same
abbrev pub is_end : Option Path → Bool
is_end None = false
is_end (Some []) = true
is_end (Some (part ∷ path)) = false

eq_then : (r s : Ordering) → is_eq (ordering_then r s) ≡ cond (is_eq r) (is_eq s) false
eq_then Less s = refl
eq_then Equal s = refl
eq_then Greater s = refl

pub same-after : (a path : Path) → is_same_path a path ≡ is_end (after_path a path)
same-after [] [] = refl
same-after [] (first ∷ path) = refl
same-after (part ∷ a) [] = refl
same-after (part ∷ a) (first ∷ path) =
    eq_then (slice_cmp nat_cmp part first) (path_cmp a path) ∙ ap (λ (t : Bool). cond t (is_same_path a path) false) (sym (texts_ties part first)) ∙ by_test (bytes_eq part first) (same-after a path)
  where
    by_test : (t : Bool) → is_same_path a path ≡ is_end (after_path a path) → cond t (is_same_path a path) false ≡ is_end (cond t (after_path a path) None)
    by_test true e = e
    by_test false e = refl

pub same-none : (a path : Path) → None ≡ after_path a path → false ≡ is_same_path a path
same-none a path e = ap is_end e ∙ sym (same-after a path)

empty-end : (rest : Path) → (length rest == 0) ≡ is_end (Some rest)
empty-end [] = refl
empty-end (part ∷ rest) = grind (arith, common_steps)

pub same-some : (a path rest : Path) (b : Bool) → Some rest ≡ after_path a path → b ≡ (length rest == 0) → b ≡ is_same_path a path
same-some a path rest b e is = is ∙ empty-end rest ∙ ap is_end e ∙ sym (same-after a path)

-- the first of the pieces, and what follows it
pub after-piece : (piece : List ℕ) (parts own : Path) (text : List ℕ) (behind : Path) → parts ≡ filter is_part (piece ∷ []) ++ behind
    → after_path parts own ≡ option_and_then (after_path behind) (after_path (filter is_part (piece ∷ [])) own)
after-piece piece parts own text behind is = ap (λ (a : Path). after_path a own) is ∙ after-append (filter is_part (piece ∷ [])) behind own

-- one more of the paths above
take-map : {A B : Type 0} (f : A → B) (n : ℕ) (xs : List A) → take n (map f xs) ≡ map f (take n xs)
take-map f zero xs = refl
take-map f (suc n) [] = refl
take-map f (suc n) (x ∷ xs) = ap (λ (ys : List _). f x ∷ ys) (take-map f n xs)

map-end : {A B : Type 0} (f : A → B) (xs : List A) (x : A) → map f (xs ++ x ∷ []) ≡ map f xs ++ f x ∷ []
map-end f [] x = refl
map-end f (y ∷ xs) x = ap (λ (ys : List _). f y ∷ ys) (map-end f xs x)

parents-next : (path : Path) (n : ℕ) → n < length path → take (suc n) (parents_of path) ≡ take n (parents_of path) ++ take n path ∷ []
parents-next [] n lt = absurd (omega (arith, lt))
parents-next (part ∷ path) zero lt = refl
parents-next (part ∷ path) (suc n) lt =
    ap (λ (ys : List Path). [] ∷ ys)
    (take-map (λ (p : Path). part ∷ p) (suc n) (parents_of path) ∙ ap (map (λ (p : Path). part ∷ p)) (parents-next path n (omega (arith, lt))) ∙ map-end (λ (p : Path). part ∷ p) (take n (parents_of path)) (take n path)
    ∙ ap (λ (ys : List Path). ys ++ (part ∷ take n path) ∷ []) (sym (take-map (λ (p : Path). part ∷ p) n (parents_of path))))

pub parents-step : (path : Path) (n : ℕ) → n < length path → take (n + 1) (parents_of path) ≡ take n (parents_of path) ++ take n path ∷ []
parents-step path n lt = let e : n + 1 ≡ suc n = omega arith in ap (λ (m : ℕ). take m (parents_of path)) e ∙ parents-next path n lt

pub parents-all : (path : Path) → take (length path) (parents_of path) ≡ parents_of path
parents-all [] = refl
parents-all (part ∷ path) = ap (λ (ys : List Path). [] ∷ ys) (take-map (λ (p : Path). part ∷ p) (length path) (parents_of path) ∙ ap (map (λ (p : Path). part ∷ p)) (parents-all path))
