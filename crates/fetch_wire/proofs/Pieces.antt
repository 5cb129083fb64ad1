-- The pieces of a scripted peer.
use Rattle.std.proofs.Common.{◌≡◌, Bool, ℕ, None, ◌+◌, ◌-◌, ◌<◌, ◌≤◌, List, [], ◌∷◌, ◌++◌, length, get_or, take, drop, refl, sym, ap, ◌∙◌, arith, append_assoc, take-append-drop, length-drop}
use Rattle.std.proofs.lemmas.List.{append_cancel_right, drop-drop, append-nil, drop_more, take_more, take_all, drop_all}
use Rattle.std.specs.List.{concat}
use Rattle.fetch_lines.specs.Talks.{Receive, Passes}
use Rattle.fetch_wire.specs.Scripts.{given_of, pieces_from, from_first, first_of, without}

pub concat-append : (xs ys : List (List ℕ)) → concat (xs ++ ys) ≡ concat xs ++ concat ys
concat-append [] ys = refl
concat-append (x ∷ xs) ys = ap (λ (l : List ℕ). x ++ l) (concat-append xs ys) ∙ sym (append_assoc x (concat xs) (concat ys))

-- a piece that was given whole is over: the next begins
pub given_next : (pieces : List (List ℕ)) (piece : ℕ) → piece < length pieces → given_of pieces (piece + 1) 0 ≡ given_of pieces piece (length (get_or pieces piece []))
given_next pieces piece lt =
    let e = take_more pieces piece [] lt in
    let f = concat-append (take piece pieces) (get_or pieces piece [] ∷ []) in
    let g : concat (get_or pieces piece [] ∷ []) ≡ get_or pieces piece [] = append-nil (get_or pieces piece []) in
    let h : take (length (get_or pieces piece [])) (get_or pieces piece []) ≡ get_or pieces piece [] = take_all _ (get_or pieces piece []) (omega arith) in
    append-nil (concat (take (piece + 1) pieces)) ∙ ap concat e ∙ f ∙ ap (λ (l : List ℕ). concat (take piece pieces) ++ l) (g ∙ sym h)

-- no byte is left out
without_none : (pieces : List (List ℕ)) → without 0 pieces ≡ pieces
without_none [] = refl
without_none (piece ∷ pieces) = refl

pub all_pieces : (pieces : List (List ℕ)) → pieces_from pieces 0 0 ≡ pieces
all_pieces pieces = without_none pieces

-- the pieces from a place in one of them
pub pieces_at : (pieces : List (List ℕ)) (piece offset : ℕ) → piece < length pieces → pieces_from pieces piece offset ≡ drop offset (get_or pieces piece []) ∷ drop (piece + 1) pieces
pieces_at pieces piece offset lt = ap (without offset) (drop_more pieces piece [] lt)

-- after the last piece nothing is left
pub none_left : (pieces : List (List ℕ)) (piece offset : ℕ) → length pieces ≤ piece → pieces_from pieces piece offset ≡ []
none_left pieces piece offset le = ap (without offset) (drop_all piece pieces le)

-- empty pieces hold nothing
pub concat-from_first : (pieces : List (List ℕ)) → concat (from_first pieces) ≡ concat pieces
concat-from_first [] = refl
concat-from_first ([] ∷ pieces) = concat-from_first pieces
concat-from_first ((b ∷ bytes) ∷ pieces) = refl

-- a place after a whole piece is the front of the next
pub step_left : (pieces left : List (List ℕ)) (piece offset : ℕ) → piece < length pieces → offset ≡ length (get_or pieces piece []) → from_first (pieces_from pieces piece offset) ≡ from_first left
    → from_first (pieces_from pieces (piece + 1) 0) ≡ from_first left
step_left pieces left piece offset lt is so_far =
    let e : drop offset (get_or pieces piece []) ≡ [] = drop_all offset (get_or pieces piece []) (omega arith) in
    let f : pieces_from pieces piece offset ≡ [] ∷ drop (piece + 1) pieces = pieces_at pieces piece offset lt ∙ ap (λ (l : List ℕ). l ∷ drop (piece + 1) pieces) e in
    ap from_first (without_none (drop (piece + 1) pieces)) ∙ (rw f at so_far)

full_first : (bytes : List ℕ) (pieces : List (List ℕ)) → 0 < length bytes → from_first (bytes ∷ pieces) ≡ bytes ∷ pieces
full_first [] pieces some = absurd (omega arith)
full_first (b ∷ bytes) pieces some = refl

-- a place where a byte stands
pub byte_left : (pieces left : List (List ℕ)) (piece offset : ℕ) → piece < length pieces → offset < length (get_or pieces piece []) → from_first (pieces_from pieces piece offset) ≡ from_first left
    → pieces_from pieces piece offset ≡ from_first left
byte_left pieces left piece offset lt inside so_far =
    let e = pieces_at pieces piece offset lt in
    let some : 0 < length (drop offset (get_or pieces piece [])) = omega (arith, length-drop offset (get_or pieces piece [])) in
    e ∙ sym (full_first _ (drop (piece + 1) pieces) some) ∙ ap from_first (sym e) ∙ so_far

-- the end, where none is left
pub end_left : (pieces left : List (List ℕ)) (piece offset : ℕ) → length pieces ≤ piece → from_first (pieces_from pieces piece offset) ≡ from_first left → pieces_from pieces piece offset ≡ from_first left
end_left pieces left piece offset le so_far = let e = none_left pieces piece offset le in e ∙ (rw e at so_far)

-- a record of what a step of the search for a byte keeps
pub step_given : (pieces : List (List ℕ)) (piece offset piece' offset' : ℕ) → piece' < length pieces → offset' ≡ length (get_or pieces piece' []) → given_of pieces piece' offset' ≡ given_of pieces piece offset
    → given_of pieces (piece' + 1) 0 ≡ given_of pieces piece offset
step_given pieces piece offset piece' offset' lt is so_far = given_next pieces piece' lt ∙ ap (λ (n : ℕ). given_of pieces piece' n) (sym is) ∙ so_far

-- a call that took these bytes
pub hears : (answers : Bool) (heard given to_come heard' bytes : List ℕ) (before now : List Receive) → heard' ≡ heard ++ bytes
    → Passes answers (record { heard = heard; given = given; to_come = to_come; receives = before; rule = None }) (record { heard = heard'; given = given; to_come = to_come; receives = now; rule = None }) bytes []
hears answers heard given to_come heard' bytes before now more = record {
  heard_more = more;
  gave_more = sym (append-nil given);
  added = [];
  in_order = append-nil to_come;
  fixed = λ _. refl;
  same_rule = refl;
}

-- a call that took nothing, and gave nothing where nothing is left but empty pieces
pub nothing_passes : (answers : Bool) (heard given given' to_come to_come' heard' : List ℕ) (before now : List Receive) → heard' ≡ heard → given' ≡ given → to_come' ≡ to_come
    → Passes answers (record { heard = heard; given = given; to_come = to_come; receives = before; rule = None }) (record { heard = heard'; given = given'; to_come = to_come'; receives = now; rule = None }) [] []
nothing_passes answers heard given given' to_come to_come' heard' before now same same' same'' = rw (same, same', same'') (hears answers heard given to_come heard [] before now (sym (append-nil heard)))

-- the next n bytes of a piece were given
pub gives : (answers : Bool) (pieces left : List (List ℕ)) (piece offset n : ℕ) (heard given got : List ℕ) (before now : List Receive) → piece < length pieces
    → drop offset (get_or pieces piece []) ≡ got ++ drop (offset + n) (get_or pieces piece [])
    → given_of pieces piece offset ≡ given → pieces_from pieces piece offset ≡ from_first left
    → Passes answers (record { heard = heard; given = given; to_come = concat left; receives = before; rule = None })
    (record { heard = heard; given = given_of pieces piece (offset + n); to_come = concat (pieces_from pieces piece (offset + n)); receives = now; rule = None }) [] got
gives answers pieces left piece offset n heard given got before now lt is same_given same_left =
    let text = get_or pieces piece [] in
    let whole : take (offset + n) text ++ drop (offset + n) text ≡ (take offset text ++ got) ++ drop (offset + n) text =
    take-append-drop (offset + n) text ∙ sym (take-append-drop offset text) ∙ ap (λ (l : List ℕ). take offset text ++ l) is ∙ sym (append_assoc (take offset text) got (drop (offset + n) text)) in
    let front : take (offset + n) text ≡ take offset text ++ got = append_cancel_right _ _ (drop (offset + n) text) whole in
    let all_left : concat left ≡ drop offset text ++ concat (drop (piece + 1) pieces) = sym (concat-from_first left) ∙ ap concat (sym same_left ∙ pieces_at pieces piece offset lt) in
    record {
      heard_more = sym (append-nil heard);
      gave_more = ap (λ (l : List ℕ). concat (take piece pieces) ++ l) front ∙ sym (append_assoc (concat (take piece pieces)) (take offset text) got) ∙ ap (λ (l : List ℕ). l ++ got) same_given;
      added = [];
      in_order = append-nil (concat left) ∙ all_left ∙ ap (λ (l : List ℕ). l ++ concat (drop (piece + 1) pieces)) is ∙ append_assoc got (drop (offset + n) text) (concat (drop (piece + 1) pieces))
          ∙ ap (λ (l : List ℕ). got ++ l) (sym (ap concat (pieces_at pieces piece (offset + n) lt)));
      fixed = λ _. refl;
      same_rule = refl;
    }

-- what is left after n bytes of a piece
pub left_behind : (pieces left : List (List ℕ)) (piece offset n : ℕ) → piece < length pieces → pieces_from pieces piece offset ≡ from_first left → pieces_from pieces piece (offset + n) ≡ without n (from_first left)
left_behind pieces left piece offset n lt same =
    pieces_at pieces piece (offset + n) lt ∙ ap (λ (l : List ℕ). l ∷ drop (piece + 1) pieces) (sym (drop-drop n offset (get_or pieces piece []))) ∙ ap (without n) (sym (pieces_at pieces piece offset lt) ∙ same)

-- the piece that comes next
pub first_len : (pieces left : List (List ℕ)) (piece offset : ℕ) → piece < length pieces → pieces_from pieces piece offset ≡ from_first left → length (first_of (from_first left)) ≡ length (get_or pieces piece []) - offset
first_len pieces left piece offset lt same = ap (λ (l : List (List ℕ)). length (first_of l)) (sym same ∙ pieces_at pieces piece offset lt) ∙ length-drop offset (get_or pieces piece [])

-- where no piece is left nothing is to come
pub none_to_come : (left : List (List ℕ)) → from_first left ≡ [] → concat left ≡ []
none_to_come left none = sym (concat-from_first left) ∙ ap concat none

empty_of : (pieces : List (List ℕ)) → length (first_of (from_first pieces)) ≡ 0 → concat pieces ≡ []
empty_of [] is = refl
empty_of ([] ∷ pieces) is = empty_of pieces is
empty_of ((b ∷ bytes) ∷ pieces) is = absurd (omega arith)

-- where the next piece is empty nothing is to come
pub drained : (left : List (List ℕ)) → length (first_of (from_first left)) ≡ 0 → concat left ≡ []
drained left is = empty_of left is
