use Rattle.std.proofs.Common.{◌≡◌, ◌++◌, map, drop}
use Rattle.fetch_lines.specs.Bands.{Piece, band_line}
use Rattle.fetch_lines.proofs.server.reply_lines.append_bands.Given as goal

abbrev pub invariant-loop-piece : goal.invariant-loop-piece
invariant-loop-piece l = l.lines.items ++ map band_line (map Piece (drop l.piece-index l.pieces)) ≡ l.fn.lines.items ++ map band_line (map Piece l.pieces)
