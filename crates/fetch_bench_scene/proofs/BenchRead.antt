-- The text of a bench's scene is read as the scene that is fetched.
use Rattle.std.proofs.Common.{◌≡◌, ℕ, ◌/◌, ◌<◌, ◌≤◌, false, Some, Ok, length, refl, ap, ◌∙◌, arith}
use Rattle.std.specs.Prelude.{nat_lt}
use Rattle.std.specs.List.{concat}
use Rattle.std.proofs.lemmas.Bool.Decides.{nat_tests}
use Rattle.fetch_store.specs.Collisions.{HasDistinctIds}
use Rattle.fetch_specs.specs.Names.{is_name, lock}
use Rattle.fetch_specs.specs.Parses.{parsed, id_named}
use Rattle.fetch_specs.specs.Specs.{Spec}
use Rattle.fetch_lines.specs.Cutting.{in_pieces}
use Rattle.fetch_lines.proofs.Cut.{are_the_bytes}
use Rattle.fetch_bench.specs.Commits.{line_of, tip}
use Rattle.fetch_bench.specs.Generated.{server_stream, generated}
use Rattle.fetch_bench.specs.declared.generated.Generated.{Generated}
use Rattle.fetch_scene.specs.LineKinds.{refspec_in}
use Rattle.fetch_scene.specs.Scene as scenes
use Rattle.fetch_scene.specs.Scene.{limit, scene_in, scene_of}
use Rattle.fetch_bench_scene.specs.Bench.{refspec, scene_with, generated_scene}
use Rattle.fetch_bench_scene.specs.BenchText.{pack_of, scene_lines, bench_text}
use Rattle.fetch_bench_scene.proofs.BenchLengths.{text_short_enough, lines_written}
use Rattle.fetch_bench_scene.proofs.BenchObjects.{pack_read, tip_spelt}
use Rattle.fetch_bench_scene.proofs.PlacedLines.{read_placed}
use Rattle.fetch_bench_scene.proofs.SceneParts.{packed, local_with, remote_with, scene_read}

spec_is : (spec : Spec) × (refspec_in refspec ≡ Some spec)
unfolding parsed id_named is_name lock
spec_is = (_, refl)

scene_is : (g : Generated) (spec : Spec) → refspec_in refspec ≡ Some spec → scenes.scene_with (local_with g.tip) g.objects (remote_with spec) g.pieces ≡ scene_with g
unfolding scene_with
scene_is g spec is = rw is refl

pub bench_read : (n : ℕ) → 0 < n → n ≤ 100000 → HasDistinctIds (line_of (n / 2)) → scene_of (bench_text n) ≡ Ok (generated_scene n)
unfolding scene_of bench_text scene_lines generated
bench_read n some few apart =
    let pack = pack_of (line_of (n / 2)) in
    let short = text_short_enough n few in
    let len = length (bench_text n) in
    let within : nat_lt limit len ≡ false = grind (arith, nat_tests) in
    let whole : packed (concat (in_pieces 65000 pack)) ≡ Some (line_of (n / 2)) =
    ap packed (are_the_bytes 65000 pack (omega arith)) ∙ pack_read (n / 2) (omega (arith, few)) apart in
    rw within (ap (scene_in len) (read_placed (scene_lines (generated n)) (lines_written n) (omega (arith, short)))
    ∙ scene_read (tip (n / 2)) (in_pieces 65000 pack) (in_pieces 65000 (server_stream n)) (line_of (n / 2)) spec_is.0 len (tip_spelt (n / 2)) whole spec_is.1
    ∙ ap Ok (scene_is (generated n) spec_is.0 spec_is.1))
