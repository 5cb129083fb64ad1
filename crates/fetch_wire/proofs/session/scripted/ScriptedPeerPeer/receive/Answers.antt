use Rattle.std.proofs.Common.{ℕ, ◌≡◌, ◌<◌, ◌+◌, ◌-◌, ◌≤◌, [], ◌∙◌, ap, sym, length, min, get_or, arith, false, refl}
use Rattle.std.proofs.lemmas.List.{get_or_read}
use Rattle.std.specs.List.{concat}
use Rattle.fetch_wire.specs.Scripts.{pieces_from}
use Rattle.fetch_wire.proofs.Pieces.{gives, nothing_passes, none_left, none_to_come, drained, concat-from_first, left_behind, first_len}
use Rattle.fetch_wire.proofs.session.scripted.ScriptedPeerPeer.receive.Goals as goal

pub returns-clause-talk : goal.returns-clause-talk
returns-clause-talk c =
    let pieces = c.self.inside.said.pieces.items in
    let piece = c.next_place-piece.result.0 in
    let offset = c.next_place-piece.result.1 in
    let n = c.copy_from-count.result in
    let within : piece < length pieces = omega arith in
    let text : c.as_bytes.result.now ≡ get_or pieces piece [] = c.as_bytes.ensures ∙ get_or_read pieces piece c.index.result.now within c.index.ensures [] in
    let left = rw c.deref.ensures.value at c.next_place-piece.ensures.left in
    let copied = rw text at c.copy_from-count.ensures.copied in
    let count : n ≡ min (length c.copy_from-count.new.into) (length (get_or pieces piece []) - offset) = rw text at c.copy_from-count.ensures.count in
    rw (← c.self.view_is) (
      gives false pieces (pieces_from pieces c.self.inside.said.piece c.self.inside.said.offset) piece offset n _ _ _ _ _ within copied (rw c.deref.ensures.value at c.next_place-piece.ensures.given) left,
      λ none room. let l = first_len pieces (pieces_from pieces c.self.inside.said.piece c.self.inside.said.offset) piece offset within left in
          let before = pieces_from pieces c.self.inside.said.piece c.self.inside.said.offset in
          let dry : concat before ≡ [] = drained before (omega (arith, l, count, none, room)) in
          let same : offset + n ≡ offset = omega (arith, none) in
          ap (λ (k : ℕ). concat (pieces_from pieces piece k)) same ∙ ap concat left ∙ concat-from_first before ∙ dry,
    )

pub returns-clause-fits : goal.returns-clause-fits
returns-clause-fits c =
    let pieces = c.self.inside.said.pieces.items in
    let piece = c.next_place-piece.result.0 in
    let offset = c.next_place-piece.result.1 in
    let within : piece < length pieces = omega arith in
    let text : c.as_bytes.result.now ≡ get_or pieces piece [] = c.as_bytes.ensures ∙ get_or_read pieces piece c.index.result.now within c.index.ensures [] in
    let left = rw c.deref.ensures.value at c.next_place-piece.ensures.left in
    let count = rw text at c.copy_from-count.ensures.count in
    rw (← c.self.view_is, first_len pieces (pieces_from pieces c.self.inside.said.piece c.self.inside.said.offset) piece offset within left) count

pub returns-clause-left : goal.returns-clause-left
returns-clause-left c =
    let pieces = c.self.inside.said.pieces.items in
    let left = rw c.deref.ensures.value at c.next_place-piece.ensures.left in
    let within : c.next_place-piece.result.0 < length pieces = omega arith in
    rw (← c.self.view_is) (left_behind pieces (pieces_from pieces c.self.inside.said.piece c.self.inside.said.offset) _ _ c.copy_from-count.result within left)

pub returns-then-piece-len-clause-talk : goal.returns-then-piece-len-clause-talk
returns-then-piece-len-clause-talk c =
    let pieces = c.self.inside.said.pieces.items in
    let past : length pieces ≤ c.next_place-piece.result.0 = omega arith in
    let left = rw c.deref.ensures.value at c.next_place-piece.ensures.left in
    let none : pieces_from pieces c.next_place-piece.result.0 c.next_place-piece.result.1 ≡ [] = none_left pieces _ _ past in
    let dry : concat (pieces_from pieces c.next_place-piece.result.0 c.next_place-piece.result.1) ≡ [] = ap concat none in
    rw (← c.self.view_is) (nothing_passes false _ _ _ _ _ _ _ _ refl (rw c.deref.ensures.value at c.next_place-piece.ensures.given) (dry ∙ sym (none_to_come (pieces_from pieces c.self.inside.said.piece c.self.inside.said.offset) (sym left ∙ none))), λ _ _. dry)
