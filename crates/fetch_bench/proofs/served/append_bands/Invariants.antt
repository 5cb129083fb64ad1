use Rattle.std.proofs.Common.{◌≡◌, ◌++◌, drop, map}
use Rattle.fetch_lines.specs.Bands.{Piece, band_line}
use Rattle.fetch_lines.specs.Written.{lines_text}
use Rattle.fetch_bench.proofs.served.append_bands.Given as goal

abbrev pub invariant-loop-piece : goal.invariant-loop-piece
invariant-loop-piece l = l.out.items ++ lines_text (map band_line (map Piece (drop l.piece-index l.pieces))) ≡ l.fn.out.items ++ lines_text (map band_line (map Piece l.pieces))
