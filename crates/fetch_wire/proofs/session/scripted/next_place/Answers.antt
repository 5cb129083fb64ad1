use Rattle.std.proofs.Common.{◌≡◌, ◌<◌, [], ◌∙◌, ap, length, get_or, arith}
use Rattle.std.proofs.lemmas.List.{get_or_read}
use Rattle.fetch_wire.specs.Scripts.{pieces_from}
use Rattle.fetch_wire.proofs.Pieces.{step_given, step_left, byte_left}
use Rattle.fetch_wire.proofs.session.scripted.next_place.Goals as goal

pub loop-piece-preserved : goal.loop-piece-preserved
loop-piece-preserved c =
    let pieces = c.args.pieces.now in
    let piece = c.loop-piece.piece in
    let text = get_or_read pieces piece c.index-pieces-piece.result c.loop-piece-test.true c.index-pieces-piece.is [] in
    let whole : c.loop-piece.offset ≡ length (get_or pieces piece []) = c.if-offset-as_bytes.true ∙ ap length (c.as_bytes.ensures ∙ text) in
    let is = c.loop-piece.invariant in
    (omega arith, omega arith, step_given pieces c.args.piece c.args.offset piece c.loop-piece.offset c.loop-piece-test.true whole is.2, step_left pieces (pieces_from pieces c.args.piece c.args.offset) piece c.loop-piece.offset c.loop-piece-test.true whole is.3)

pub returns-else-offset-as_bytes-clause-left : goal.returns-else-offset-as_bytes-clause-left
returns-else-offset-as_bytes-clause-left c =
    let pieces = c.args.pieces.now in
    let piece = c.loop-piece.piece in
    let text = get_or_read pieces piece c.index-pieces-piece.result c.loop-piece-test.true c.index-pieces-piece.is [] in
    let same : length c.as_bytes.result.now ≡ length (get_or pieces piece []) = ap length (c.as_bytes.ensures ∙ text) in
    let is = c.loop-piece.invariant in
    let inside : c.loop-piece.offset < length (get_or pieces piece []) = omega (arith, same, is.1, c.if-offset-as_bytes.false) in
    byte_left pieces (pieces_from pieces c.args.piece c.args.offset) piece c.loop-piece.offset c.loop-piece-test.true inside is.3
