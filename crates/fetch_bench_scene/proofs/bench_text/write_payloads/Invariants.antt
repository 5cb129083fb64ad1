use Rattle.std.proofs.Common.{◌≡◌, ◌++◌, drop, map}
use Rattle.fetch_pack.specs.Texts.{Keeps}
use Rattle.fetch_lines.specs.Written.{lines_text}
use Rattle.fetch_lines.specs.declared.lines.line.Line.TheVariants.{Payload}
use Rattle.fetch_bench_scene.proofs.bench_text.write_payloads.Given as goal

abbrev pub invariant-loop-piece : goal.invariant-loop-piece
invariant-loop-piece l = record {
  text : l.out.items ++ lines_text (map Payload (drop l.piece-index l.pieces)) ≡ l.fn.out.items ++ lines_text (map Payload l.pieces);
  keeps : Keeps l.fn.out.items l.out.items;
}
