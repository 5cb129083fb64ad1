use Rattle.std.proofs.Common.{◌≡◌, ◌++◌, length}
use Rattle.fetch_pack.specs.Texts.{Keeps}
use Rattle.fetch_lines.specs.Written.{lines_text}
use Rattle.fetch_bench_scene.specs.BenchText.{piece_lines}
use Rattle.fetch_bench_scene.proofs.bench_text.write_pieces.Given as goal

abbrev pub invariant-pieces : goal.invariant-pieces
invariant-pieces l = record {
  text : l.out.items ++ lines_text (piece_lines l.rest) ≡ l.fn.out.items ++ lines_text (piece_lines l.bytes);
  keeps : Keeps l.fn.out.items l.out.items;
}

abbrev pub decreases-pieces : goal.decreases-pieces
decreases-pieces l = length l.rest
