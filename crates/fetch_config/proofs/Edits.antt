-- One section changes, and the others stay.
use Rattle.std.proofs.Common.{◌≡◌, ℕ, zero, suc, ◌+◌, ◌<◌, List, [], ◌∷◌, length, get_or, Option, refl, ap, arith}
use Rattle.std.specs.Prelude.{slice_set}
use Rattle.fetch_config.specs.declared.section.Section.{Section}
use Rattle.fetch_config.specs.Contents.{on_section, with_entry}
use Rattle.fetch_config.specs.Reading.{with_entries}

pub set-on_section : (f : Section → Section) (i : ℕ) (x : Section) (xs : List Section) → i < length xs → x ≡ get_or xs i x → slice_set xs i (f x) ≡ on_section i f xs
set-on_section f zero x [] lt is = absurd (omega arith)
set-on_section f (suc i) x [] lt is = absurd (omega arith)
set-on_section f zero x (y ∷ ys) lt is = ap (λ z. f z ∷ ys) is
set-on_section f (suc i) x (y ∷ ys) lt is = ap (λ zs. y ∷ zs) (set-on_section f i x ys (omega arith) is)

pub on_last : (e : List ℕ × Option (List ℕ)) (n : ℕ) (xs : List Section) → n + 1 ≡ length xs → on_section n (with_entry e) xs ≡ with_entries xs (e ∷ [])
on_last e n [] is = absurd (omega arith)
on_last e zero (s ∷ []) is = refl
on_last e (suc n) (s ∷ []) is = absurd (omega arith)
on_last e zero (s ∷ t ∷ ss) is = absurd (omega arith)
on_last e (suc n) (s ∷ t ∷ ss) is = ap (λ zs. s ∷ zs) (on_last e n (t ∷ ss) (omega arith))
