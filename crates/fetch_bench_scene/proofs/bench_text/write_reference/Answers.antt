use Rattle.std.proofs.Common.{ℕ, List, ap, ◌++◌, ◌∙◌}
use Rattle.fetch_lines.specs.Written.{line_text}
use Rattle.fetch_lines.specs.declared.lines.line.Line.TheVariants.{Payload}
use Rattle.fetch_bench_scene.proofs.BenchParts.{tracking_written}
use Rattle.fetch_bench_scene.proofs.bench_text.write_reference.Goals as goal

pub returns-clause-text : goal.returns-clause-text
returns-clause-text c =
    c.in_ok-write_line.ensures.ok ∙ ap (λ (t : List ℕ). c.args.out.now.items ++ t) (ap (λ (t : List ℕ). line_text (Payload t)) c.deref.ensures.value
    ∙ tracking_written _ _ _ c.args.id.now c.in_ok-text.ensures.items c.in_ok-append_hex.ensures.ok c.in_ok-extend_from_slice.ensures.items)
