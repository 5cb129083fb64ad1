use Rattle.std.proofs.Common.{codes}
use Rattle.fetch_lines.specs.Requests.{text_line}
use Rattle.fetch_bench_scene.proofs.BenchParts.{two_written}
use Rattle.fetch_bench_scene.proofs.bench_text.write_config.Goals as goal

pub returns-clause-text : goal.returns-clause-text
returns-clause-text c =
    two_written _ _ _ (text_line (codes "config [fetch]")) (text_line (codes "config negotiationAlgorithm = noop")) c.in_ok-write_line.ensures.ok c.in_ok-write_line-2.ensures.ok
