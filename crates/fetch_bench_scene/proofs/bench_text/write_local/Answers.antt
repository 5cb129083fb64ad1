use Rattle.fetch_lines.specs.Requests.{sent}
use Rattle.fetch_bench_scene.specs.BenchText.{head_texts, config_texts}
use Rattle.fetch_bench_scene.proofs.BenchParts.{local_written}
use Rattle.fetch_bench_scene.proofs.bench_text.write_local.Goals as goal

pub returns-clause-text : goal.returns-clause-text
returns-clause-text c = local_written _ _ _ _ (sent head_texts) _ (sent config_texts) c.in_ok-write_head.ensures.text c.in_ok-write_tracking.ensures.text c.in_ok-write_config.ensures.text
