-- Bytes that are cut into pieces: how many pieces are allowed doesn't matter.
use Rattle.std.proofs.Common.{◌≡◌, ℕ, zero, suc, ◌≤◌, ◌<◌, min, List, [], ◌∷◌, ◌++◌, length, take, drop, inl, inr, refl, sym, ap, ◌∙◌, arith, append_assoc, take-append-drop, length-drop}
use Rattle.std.specs.List.{concat}
use Rattle.std.proofs.lemmas.List.{take_all, drop_all}
use Rattle.std.proofs.lemmas.Bool.{cases_lt}
use Rattle.fetch_lines.specs.Cutting.{pieces_within, in_pieces}

enough : (n m size : ℕ) (bytes : List ℕ) → 0 < size → length bytes ≤ n → length bytes ≤ m → pieces_within n size bytes ≡ pieces_within m size bytes
unfolding pieces_within
enough zero zero size bytes some le le' = refl
enough zero (suc m) size [] some le le' = refl
enough zero (suc m) size (b ∷ bytes) some le le' = absurd (omega arith)
enough (suc n) zero size [] some le le' = refl
enough (suc n) zero size (b ∷ bytes) some le le' = absurd (omega arith)
enough (suc n) (suc m) size [] some le le' = refl
enough (suc n) (suc m) size (b ∷ bytes) some le le' =
    let few = length-drop size (b ∷ bytes) in
    ap (λ (l : List (List ℕ)). take size (b ∷ bytes) ∷ l) (enough n m size (drop size (b ∷ bytes)) some (omega arith) (omega arith))

-- the first piece, and those after it
pub cut : (size : ℕ) (bytes : List ℕ) → 0 < size → 0 < length bytes → in_pieces size bytes ≡ take size bytes ∷ in_pieces size (drop size bytes)
unfolding pieces_within
cut size [] some full = absurd (omega arith)
cut size (b ∷ bytes) some full =
    let few = length-drop size (b ∷ bytes) in
    ap (λ (l : List (List ℕ)). take size (b ∷ bytes) ∷ l) (enough (length bytes) (length (drop size (b ∷ bytes))) size (drop size (b ∷ bytes)) some (omega arith) (omega arith))

pub cut_none : (size : ℕ) (bytes : List ℕ) → length bytes ≡ 0 → in_pieces size bytes ≡ []
unfolding pieces_within
cut_none size [] none = refl
cut_none size (b ∷ bytes) none = absurd (omega arith)

joined_within : (n size : ℕ) (bytes : List ℕ) → 0 < size → length bytes ≤ n → concat (pieces_within n size bytes) ≡ bytes
unfolding pieces_within
joined_within zero size [] some le = refl
joined_within zero size (b ∷ bytes) some le = absurd (omega arith)
joined_within (suc n) size [] some le = refl
joined_within (suc n) size (b ∷ bytes) some le =
    let few = length-drop size (b ∷ bytes) in
    ap (λ (l : List ℕ). take size (b ∷ bytes) ++ l) (joined_within n size (drop size (b ∷ bytes)) some (omega arith)) ∙ take-append-drop size (b ∷ bytes)

-- the pieces are the bytes
pub are_the_bytes : (size : ℕ) (bytes : List ℕ) → 0 < size → concat (in_pieces size bytes) ≡ bytes
are_the_bytes size bytes some = joined_within (length bytes) size bytes some (omega arith)

-- the first bytes, as many as there are
front_of : (size : ℕ) (rest : List ℕ) → (take (min (length rest) size) rest ≡ take size rest) × (drop (min (length rest) size) rest ≡ drop size rest)
front_of size rest = elim (cases_lt size (length rest)) [
  | inl lt ↦ let e : min (length rest) size ≡ size = omega arith in rw e (refl, refl)
  | inr le ↦ let e : min (length rest) size ≡ length rest = omega arith in
      rw (e, take_all (length rest) rest (omega arith), take_all size rest le, drop_all (length rest) rest (omega arith), drop_all size rest le) (refl, refl)
]

-- one piece more
pub cut_more : (size : ℕ) (bytes rest piece behind : List ℕ) (pieces : List (List ℕ)) → 0 < size → 0 < length rest → piece ≡ take (min (length rest) size) rest → behind ≡ drop (min (length rest) size) rest
    → pieces ++ in_pieces size rest ≡ in_pieces size bytes → (pieces ++ piece ∷ []) ++ in_pieces size behind ≡ in_pieces size bytes
cut_more size bytes rest piece behind pieces some full front back so_far =
    let p = front_of size rest in
    append_assoc pieces (piece ∷ []) (in_pieces size behind) ∙ ap (λ (l : List (List ℕ)). pieces ++ l) (rw (front, back, p.0, p.1) (sym (cut size rest some full))) ∙ so_far
