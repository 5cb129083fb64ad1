use Rattle.fetch_bench_scene.proofs.BenchRead.{bench_read}
use Rattle.fetch_bench_scene.proofs.laws.a_bench_is_read_from_its_text.Goals as goal

pub returns : goal.returns
returns c = bench_read
