use Rattle.std.proofs.Common.{refl, [], ◌∷◌}
use Rattle.fetch_lookup.specs.Saved as spec
use Rattle.fetch_lookup.proofs.Destinations.{first-none}
use Rattle.fetch_lookup.proofs.SavedLoops.{line-start, line-more, line-room, kept-place}
use Rattle.fetch_lookup.proofs.saving.push_lines.Goals as goal

pub loop-line-init : goal.loop-line-init
loop-line-init c =
    let file = c.args.file.now in
    record { room = c.requires; so_far = line-start file file file c.args.index c.args.lines.now 0; nul = refl }

pub loop-line-preserved : goal.loop-line-preserved
loop-line-preserved c =
    let lines = c.args.lines.now in
    let i = c.loop-line.line-index in
    let l = c.line-item.result in
    let e = c.in_ok-push_line.ensures in
    record {
      room = line-room c.loop-line.file _ c.args.index (l ∷ []) c.loop-line.invariant.room e.pushed;
      so_far = line-more c.args.file.now c.loop-line.file _ c.args.index lines i l c.loop-line-test.true c.line-item.is c.loop-line.invariant.so_far e.pushed;
      nul = first-none spec.nul_at lines i l _ c.loop-line-test.true c.line-item.is (kept-place (spec.nul_at l) e.answer) c.loop-line.invariant.nul;
    }
