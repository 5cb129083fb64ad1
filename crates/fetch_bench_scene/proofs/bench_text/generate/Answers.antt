use Rattle.std.proofs.Common.{map, sym, subst}
use Rattle.fetch_pack.specs.Records.{Fits, payloads_of}
use Rattle.fetch_pack.specs.declared.version.PackVersion.TheVariants.{V1}
use Rattle.fetch_bench.specs.declared.generated.Generated.{Generated}
use Rattle.fetch_bench_scene.proofs.BenchObjects.{generated_fits}
use Rattle.fetch_bench_scene.proofs.bench_text.generate.Goals as goal

pub write_scene-requires : goal.write_scene-requires
write_scene-requires c = subst (λ (g : Generated). Fits V1 (payloads_of (map (λ e. e.1) g.objects))) (sym c.in_ok-generated.ensures.exact) (generated_fits c.args.number c.requires.few)
