use Rattle.std.proofs.Common.{ℕ, take, drop, ap, ◌∙◌, arith}
use Rattle.fetch_bench_scene.proofs.BenchParts.{keeps_more, piece_goes, pieces_end}
use Rattle.fetch_bench_scene.proofs.bench_text.write_pieces.Goals as goal

pub pieces-preserved : goal.pieces-preserved
pieces-preserved c = record {
  text =
      piece_goes _ _ _ c.pieces.rest.now c.split_at.result.0.now c.split_at.result.1.now _ (omega arith)
      (c.split_at.ensures.front ∙ ap (λ (n : ℕ). take n c.pieces.rest.now) c.min.ensures) (c.split_at.ensures.back ∙ ap (λ (n : ℕ). drop n c.pieces.rest.now) c.min.ensures) c.in_ok-write_line.ensures.ok c.pieces.invariant.text;
  keeps = keeps_more _ _ _ _ c.in_ok-write_line.ensures.ok c.pieces.invariant.keeps;
}

pub returns-clause-text : goal.returns-clause-text
returns-clause-text c = pieces_end _ _ c.pieces.rest.now _ (omega arith) c.pieces.invariant.text
