use Rattle.std.proofs.Common.{codes}
use Rattle.fetch_lines.specs.Requests.{text_line}
use Rattle.fetch_bench_scene.proofs.BenchParts.{four_written}
use Rattle.fetch_bench_scene.proofs.bench_text.write_head.Goals as goal

pub returns-clause-text : goal.returns-clause-text
returns-clause-text c =
    four_written _ _ _ _ _ (text_line (codes "scene 1")) (text_line (codes "hash sha1")) (text_line (codes "git-dir /b/.git")) (text_line (codes "workdir /b"))
    c.in_ok-write_line.ensures.ok c.in_ok-write_line-2.ensures.ok c.in_ok-write_line-3.ensures.ok c.in_ok-write_line-4.ensures.ok
