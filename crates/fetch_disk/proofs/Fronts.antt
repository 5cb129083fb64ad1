-- Bytes that are read piece by piece.
use Rattle.std.proofs.Common.{◌≡◌, ℕ, ◌+◌, ◌-◌, ◌≤◌, List, [], ◌∷◌, ◌++◌, length, length-drop, take, drop, refl, sym, ◌∙◌, ap, arith, append_assoc, length-append, take-append-drop}
use Rattle.std.proofs.lemmas.List.{drop_at, take_at, length-take}
use Rattle.std.specs.Prelude.{min}
use Rattle.fetch_disk.specs.Disk.{IsPiece, IsFront}

-- what is read behind a front makes it longer
pub front_grows : (begin bytes piece more : List ℕ) (at n : ℕ) → IsFront begin bytes → at ≡ length begin → IsPiece (drop at bytes) n piece → more ≡ begin ++ take n piece → IsFront more bytes
front_grows begin bytes piece more at n front here is grown =
    let rest = front.0 in
    let behind : drop at bytes ≡ rest = ap (λ (k : ℕ). drop k bytes) here ∙ ap (drop (length begin)) front.1 ∙ drop_at begin rest (length begin) refl in
    let same : take n piece ≡ take n rest = is.same ∙ ap (take n) behind in (
      drop n rest,
      front.1 ∙ ap (λ (l : List ℕ). begin ++ l) (sym (take-append-drop n rest)) ∙ ap (λ (l : List ℕ). begin ++ (l ++ drop n rest)) (sym same)
          ∙ sym (append_assoc begin (take n piece) (drop n rest)) ∙ ap (λ (l : List ℕ). l ++ drop n rest) (sym grown),
    )

pub front_length : (begin bytes : List ℕ) → IsFront begin bytes → length begin ≤ length bytes
front_length begin bytes front = omega (arith, ap length front.1, length-append begin front.0)

take_none : (l : List ℕ) → take 0 l ≡ []
take_none [] = refl
take_none (b ∷ l) = refl

-- a copy is a piece
pub piece_of : (bytes into : List ℕ) (at n : ℕ) → at ≤ length bytes → n ≡ min (length into) (length bytes - at) → drop at bytes ≡ take n into ++ drop (at + n) bytes → IsPiece (drop at bytes) n into
piece_of bytes into at n within count copied = record {
  fits = omega arith;
  within = omega (arith, length-drop at bytes);
  same = sym (ap (take n) copied ∙ take_at (take n into) (drop (at + n) bytes) n (omega (arith, length-take n into)));
}

pub no_piece : (bytes into : List ℕ) (at : ℕ) → IsPiece (drop at bytes) 0 into
no_piece bytes into at = record { fits = omega arith; within = omega arith; same = take_none into ∙ sym (take_none (drop at bytes)) }
