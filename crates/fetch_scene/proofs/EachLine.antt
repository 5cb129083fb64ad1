-- Going over lines one after the other.
use Rattle.std.proofs.Common.{◌≡◌, ℕ, ◌+◌, ◌<◌, ◌≤◌, List, [], ◌∷◌, ◌++◌, length, drop, get_or, Option, Some, None, Result, Ok, Err, refl, sym, ap, ◌∙◌, append_assoc}
use Rattle.std.proofs.lemmas.List.{drop_more, drop_all, append-nil}
use Rattle.fetch_lines.specs.declared.lines.line.Line.{Line}
use Rattle.std.specs.Option.{is_some}
use Rattle.std.proofs.lemmas.List.Sums.{prefix_len-le-length}
use Rattle.fetch_scene.specs.SceneLines.{Placed, each_of, group_len}

-- what was given before, and then the rest
abbrev pub behind : {A : Type 0} → List A → Result (List A) ℕ → Result (List A) ℕ
behind front (Ok xs) = Ok (front ++ xs)
behind front (Err place) = Err place

none : {A : Type 0} (found : Result (List A) ℕ) → behind [] found ≡ found
none (Ok xs) = refl
none (Err place) = refl

pub each_init : {A : Type 0} (f : Line → Option A) (lines : List Placed) → behind [] (each_of f (drop 0 lines)) ≡ each_of f lines
each_init f lines = none (each_of f lines)

regroup : {A : Type 0} (front : List A) (x : A) (found : Result (List A) ℕ) → behind (front ++ x ∷ []) found ≡ behind front (behind (x ∷ []) found)
regroup front x (Ok xs) = ap Ok (append_assoc front (x ∷ []) xs)
regroup front x (Err place) = refl

one : {A : Type 0} (f : Line → Option A) (p : Placed) (ps : List Placed) (x : A) (found : Result (List A) ℕ) → f p.line ≡ Some x → each_of f ps ≡ found → each_of f (p ∷ ps) ≡ behind (x ∷ []) found
unfolding each_of
one f p ps x (Ok xs) is rest = rw (is, rest) refl
one f p ps x (Err place) is rest = rw (is, rest) refl

pub from : (lines : List Placed) (i : ℕ) (p : Placed) → i < length lines → p ≡ get_or lines i p → drop i lines ≡ p ∷ drop (i + 1) lines
from lines i p lt here = drop_more lines i p lt ∙ ap (λ (z : Placed). z ∷ drop (i + 1) lines) (sym here)

-- a line that gives something
pub each_goes : {A : Type 0} (f : Line → Option A) (lines : List Placed) (i : ℕ) (p : Placed) (x : A) (front : List A) (total : Result (List A) ℕ) → i < length lines → p ≡ get_or lines i p → f p.line ≡ Some x
    → behind front (each_of f (drop i lines)) ≡ total → behind (front ++ x ∷ []) (each_of f (drop (i + 1) lines)) ≡ total
each_goes f lines i p x front total lt here is so_far =
    regroup front x _ ∙ ap (behind front) (sym (one f p (drop (i + 1) lines) x _ is refl)) ∙ (rw (from lines i p lt here) at so_far)

stopped : {A : Type 0} (f : Line → Option A) (p : Placed) (ps : List Placed) (front : List A) → f p.line ≡ None → behind front (each_of f (p ∷ ps)) ≡ Err p.place
unfolding each_of
stopped f p ps front is = rw is refl

-- a line that gives nothing
pub each_stops : {A : Type 0} (f : Line → Option A) (lines : List Placed) (i : ℕ) (p : Placed) (front : List A) (total : Result (List A) ℕ) → i < length lines → p ≡ get_or lines i p → f p.line ≡ None
    → behind front (each_of f (drop i lines)) ≡ total → total ≡ Err p.place
each_stops f lines i p front total lt here is so_far =
    sym (rw (from lines i p lt here) at so_far) ∙ stopped f p (drop (i + 1) lines) front is

-- the last line is over
pub each_ends : {A : Type 0} (f : Line → Option A) (lines : List Placed) (i : ℕ) (front : List A) (total : Result (List A) ℕ) → length lines ≤ i → behind front (each_of f (drop i lines)) ≡ total → total ≡ Ok front
unfolding each_of
each_ends f lines i front total le so_far = sym (rw (drop_all i lines le) at so_far) ∙ ap Ok (append-nil front)

pub group_within : {A : Type 0} (f : Line → Option A) (lines : List Placed) → group_len f lines ≤ length lines
group_within f lines = prefix_len-le-length (λ p. is_some (f p.line)) lines
