-- The pieces of a pack.
use Rattle.std.proofs.Common.{◌≡◌, ℕ, zero, suc, ◌⊎◌, inl, inr, List, [], ◌∷◌, ◌++◌, length, take, drop, refl, sym, ap, ap₂, subst, ◌∙◌, arith, append-nil, length-append}
use Rattle.std.specs.List.{AllByRecursion, concat}
use Rattle.std.proofs.lemmas.List.{take_all, drop_all, take_at, drop_at, length-take-le}
use Rattle.std.proofs.lemmas.Bool.{cases_lt}
use Rattle.fetch_lines.specs.Cutting.{in_pieces, pieces_within}
use Rattle.fetch_lines.proofs.Cut.{cut, cut_none}
use Rattle.fetch_check.specs.Reading.{IsPiece, ArePieces}

-- ---- pieces are what bytes are cut into

one_piece : (p rest : List ℕ) → length p ≡ 65000 → in_pieces 65000 (p ++ rest) ≡ p ∷ in_pieces 65000 rest
one_piece p rest full =
    let len = length-append p rest in
    cut 65000 (p ++ rest) (omega arith) (omega arith) ∙ ap₂ (λ (x y : List ℕ). x ∷ in_pieces 65000 y) (take_at p rest 65000 full) (drop_at p rest 65000 full)

last_piece : (p : List ℕ) → IsPiece p → in_pieces 65000 (p ++ []) ≡ p ∷ []
last_piece p is =
    let some = is.0 in let few = is.1 in
    ap (in_pieces 65000) (append-nil p) ∙ cut 65000 p (omega arith) some
    ∙ ap₂ (λ (x y : List ℕ). x ∷ in_pieces 65000 y) (take_all 65000 p few) (drop_all 65000 p few)
    ∙ ap (λ (ps : List (List ℕ)). p ∷ ps) (cut_none 65000 [] refl)

pub cut_is : (ps : List (List ℕ)) → ArePieces ps → in_pieces 65000 (concat ps) ≡ ps
cut_is [] are = cut_none 65000 [] refl
cut_is (p ∷ []) are = last_piece p are
cut_is (p ∷ q ∷ ps) are = one_piece p (concat (q ∷ ps)) are.0 ∙ ap (λ (qs : List (List ℕ)). p ∷ qs) (cut_is (q ∷ ps) are.1)

put_front : (p : List ℕ) (qs : List (List ℕ)) → IsPiece p → ((qs ≡ []) ⊎ (length p ≡ 65000)) → ArePieces qs → ArePieces (p ∷ qs)
put_front p [] is full are = is
put_front p (q ∷ qs) is (inl none) are = absurd cc
put_front p (q ∷ qs) is (inr full) are = (full, are)

none_within : (n size : ℕ) → pieces_within n size [] ≡ []
unfolding pieces_within
none_within zero size = refl
none_within (suc n) size = refl

within : (n : ℕ) (bytes : List ℕ) → ArePieces (pieces_within n 65000 bytes)
unfolding pieces_within
within zero bytes = tt
within (suc n) [] = tt
within (suc n) (b ∷ bytes) =
    elim (cases_lt 65000 (length (b ∷ bytes))) [
      | inl more ↦
          let len : length (take 65000 (b ∷ bytes)) ≡ 65000 = length-take-le 65000 (b ∷ bytes) (omega arith) in
          put_front (take 65000 (b ∷ bytes)) (pieces_within n 65000 (drop 65000 (b ∷ bytes))) (omega arith, omega arith) (inr len) (within n (drop 65000 (b ∷ bytes)))
      | inr few ↦
          let front : take 65000 (b ∷ bytes) ≡ b ∷ bytes = take_all 65000 (b ∷ bytes) few in
          let is : IsPiece (take 65000 (b ∷ bytes)) = subst IsPiece (sym front) (omega arith, few) in
          put_front (take 65000 (b ∷ bytes)) (pieces_within n 65000 (drop 65000 (b ∷ bytes))) is
          (inl (ap (pieces_within n 65000) (drop_all 65000 (b ∷ bytes) few) ∙ none_within n 65000)) (within n (drop 65000 (b ∷ bytes)))
    ]

pub is_cut : (pack : List ℕ) → ArePieces (in_pieces 65000 pack)
is_cut pack = within (length pack) pack

-- ---- from the front

pub pieces_front : (ps : List (List ℕ)) (p : List ℕ) (gs : List (List ℕ)) → ArePieces (ps ++ p ∷ gs) → ArePieces (ps ++ p ∷ [])
pieces_front [] p [] are = are
pieces_front [] p (g ∷ gs) are = let full = are.0 in (omega arith, omega arith)
pieces_front (x ∷ []) p gs are = (are.0, pieces_front [] p gs are.1)
pieces_front (x ∷ y ∷ ps) p gs are = (are.0, pieces_front (y ∷ ps) p gs are.1)

pub piece_last : (ps : List (List ℕ)) (p : List ℕ) → ArePieces (ps ++ p ∷ []) → IsPiece p
piece_last [] p are = are
piece_last (x ∷ []) p are = are.1
piece_last (x ∷ y ∷ ps) p are = piece_last (y ∷ ps) p are.1

pub piece_before : (ps : List (List ℕ)) (q p : List ℕ) → ArePieces ((ps ++ q ∷ []) ++ p ∷ []) → length q ≡ 65000
piece_before [] q p are = are.0
piece_before (x ∷ []) q p are = piece_before [] q p are.1
piece_before (x ∷ y ∷ ps) q p are = piece_before (y ∷ ps) q p are.1

-- ---- one more behind full ones

abbrev pub AreFull : List (List ℕ) → Type 0
AreFull ps = AllByRecursion (λ p. length p ≡ 65000) ps

pub behind_full : (ps : List (List ℕ)) (p : List ℕ) → AreFull ps → IsPiece p → ArePieces (ps ++ p ∷ [])
behind_full [] p full is = is
behind_full (x ∷ []) p full is = (full.0, is)
behind_full (x ∷ y ∷ ps) p full is = (full.0, behind_full (y ∷ ps) p full.1 is)
