use Rattle.std.proofs.Common.{◌≡◌, ℕ, ◌+◌, ◌-◌, ◌*◌, ◌<◌, take, drop, ap, ◌∙◌, arith}
use Rattle.std.proofs.lemmas.List.{length-take-le}
use Rattle.fetch_lines.specs.Written.{line_text}
use Rattle.fetch_lines.specs.declared.lines.line.Line.TheVariants.{Payload}
use Rattle.fetch_check.proofs.Cut.{none_cut, piece_cut, line_made, line_within}
use Rattle.fetch_check.proofs.cutting.cut.Goals as goal

pub pieces-init : goal.pieces-init
pieces-init c = none_cut c.args.text.now c.args.len c.args.count c.requires.room c.requires.all

pub put-requires : goal.put-requires
put-requires c =
    let j : ℕ = c.pieces.left - 1 in
    let few = c.pieces.invariant.few in
    let least = c.requires.least in
    let some = c.pieces-test.true in
    let next : c.pieces.left ≡ j + 1 = omega arith in
    let lt : 65000 * j < c.args.len = omega arith in
    line_within (take c.args.len c.args.text.now) c.pieces.text c.as_slice.result.now c.args.len c.args.count c.pieces.left j c.pieces.invariant next lt
    (c.as_slice.ensures.value ∙ line_made _ _ _ c.clear.ensures.items c.in_ok-append_line.ensures.line
    ∙ ap (λ (n : ℕ). line_text (Payload (take (65000 * j + n - 65000 * j) (drop (65000 * j) c.pieces.text)))) c.min.ensures)

pub pieces-preserved : goal.pieces-preserved
pieces-preserved c =
    let j : ℕ = c.pieces.left - 1 in
    let few = c.pieces.invariant.few in
    let least = c.requires.least in
    let room = c.requires.room in
    let some = c.pieces-test.true in
    let next : c.pieces.left ≡ j + 1 = omega arith in
    let lt : 65000 * j < c.args.len = omega arith in
    piece_cut (take c.args.len c.args.text.now) c.pieces.text c.as_slice.result.now c.put.new.text c.args.len c.args.count c.pieces.left j c.pieces.invariant next
    (length-take-le c.args.len c.args.text.now (omega arith)) lt
    (c.as_slice.ensures.value ∙ line_made _ _ _ c.clear.ensures.items c.in_ok-append_line.ensures.line
    ∙ ap (λ (n : ℕ). line_text (Payload (take (65000 * j + n - 65000 * j) (drop (65000 * j) c.pieces.text)))) c.min.ensures)
    c.put.ensures least
