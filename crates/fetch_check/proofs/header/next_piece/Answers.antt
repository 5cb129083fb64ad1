use Rattle.std.proofs.Common.{refl}
use Rattle.fetch_check.proofs.Found.{no_piece, not_piece, other_piece}
use Rattle.fetch_check.proofs.header.next_piece.Goals as goal

pub returns-in_err-piece-clause-none : goal.returns-in_err-piece-clause-none
returns-in_err-piece-clause-none c = λ _ _. no_piece c.args.bytes.now c.args.place (c.in_err-piece.ensures.none refl)

pub returns-else-is_piece-clause-none : goal.returns-else-is_piece-clause-none
returns-else-is_piece-clause-none c =
    λ _ _. other_piece c.args.bytes.now c.args.place c.in_ok-piece.next c.in_ok-piece.piece.now c.in_ok-piece.ensures.line (not_piece c.is_piece.result c.in_ok-piece.piece.now c.is_piece.ensures c.if-is_piece.false)
