-- What a copy of a part of a text leaves.
use Rattle.std.proofs.Common.{◌≡◌, ℕ, ◌+◌, ◌-◌, ◌≤◌, List, ◌++◌, length, take, drop, sym, ap, arith, take-append-drop, length-take, length-drop}
use Rattle.std.proofs.lemmas.List.{take_at, drop-drop}

-- what a copy of the next n bytes leaves
pub copied : (bytes part rest : List ℕ) (place n : ℕ) → part ≡ take (place + n - place) (drop place bytes) → place + n ≤ length bytes → drop place bytes ≡ take n (part ++ rest) ++ drop (place + n) bytes
copied bytes part rest place n is fits =
    let k : place + n - place ≡ n = omega arith in
    let e : part ≡ take n (drop place bytes) = rw k at is in
    let l : length part ≡ n = omega (arith, ap length e, length-take n (drop place bytes), length-drop place bytes) in
    let front : take n (part ++ rest) ≡ part = take_at part rest n l in
    let back : drop (place + n) bytes ≡ drop n (drop place bytes) = sym (drop-drop n place bytes) in
    sym (rw (front, back, e) (take-append-drop n (drop place bytes)))
