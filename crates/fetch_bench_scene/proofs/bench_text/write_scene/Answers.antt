use Rattle.std.proofs.Common.{ℕ, List, map, ap, ◌++◌, ◌∙◌}
use Rattle.fetch_pack.specs.Texts.{Keeps}
use Rattle.fetch_lines.specs.Written.{lines_text}
use Rattle.fetch_lines.specs.declared.lines.line.Line.TheVariants.{Payload}
use Rattle.fetch_bench_scene.proofs.BenchParts.{keeps_before, if_refused, scene_written}
use Rattle.fetch_bench_scene.proofs.bench_text.write_scene.Goals as goal

pub returns-in_err-write_objects-clause-err : goal.returns-in_err-write_objects-clause-err
returns-in_err-write_objects-clause-err c =
    if_refused c.from_residual-in_err-write_objects.result (Keeps c.args.out.now.items c.write_objects.new.out.items) (keeps_before _ _ _ _ c.in_ok-write_local.ensures.text (keeps_before _ _ _ _ c.in_ok-write_line.ensures.ok c.in_err-write_objects.ensures.err))

pub returns-in_err-write_remote-clause-err : goal.returns-in_err-write_remote-clause-err
returns-in_err-write_remote-clause-err c =
    if_refused c.from_residual-in_err-write_remote.result (Keeps c.args.out.now.items c.write_remote.new.out.items) (keeps_before _ _ _ _ c.in_ok-write_local.ensures.text (keeps_before _ _ _ _ c.in_ok-write_line.ensures.ok (keeps_before _ _ _ _ c.in_ok-write_objects.ensures.text (keeps_before _ _ _ _ c.in_ok-write_line-2.ensures.ok c.in_err-write_remote.ensures.err))))

pub returns-in_err-write_payloads-clause-err : goal.returns-in_err-write_payloads-clause-err
returns-in_err-write_payloads-clause-err c =
    if_refused c.from_residual-in_err-write_payloads.result (Keeps c.args.out.now.items c.write_payloads.new.out.items) (keeps_before _ _ _ _ c.in_ok-write_local.ensures.text (keeps_before _ _ _ _ c.in_ok-write_line.ensures.ok (keeps_before _ _ _ _ c.in_ok-write_objects.ensures.text (keeps_before _ _ _ _ c.in_ok-write_line-2.ensures.ok (keeps_before _ _ _ _ c.in_ok-write_remote.ensures.text (keeps_before _ _ _ _ c.in_ok-write_line-3.ensures.ok c.in_err-write_payloads.ensures.err))))))

pub returns-clause-text : goal.returns-clause-text
returns-clause-text c =
    scene_written _ _ _ _ _ _ _ _ _ c.args.generated c.in_ok-write_local.ensures.text c.in_ok-write_line.ensures.ok c.in_ok-write_objects.ensures.text c.in_ok-write_line-2.ensures.ok c.in_ok-write_remote.ensures.text c.in_ok-write_line-3.ensures.ok
    (c.in_ok-write_payloads.ensures.text ∙ ap (λ (ps : List (List ℕ)). c.write_line-3.new.out.items ++ lines_text (map Payload ps)) c.as_slice.ensures) c.in_ok-write_line-4.ensures.ok
