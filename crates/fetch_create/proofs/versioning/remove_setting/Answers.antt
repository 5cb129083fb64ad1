use Rattle.std.proofs.Common.{arith, ◌∙◌}
use Rattle.fetch_lookup.proofs.SavedLoops.{edit-start, edit-more, edit-room, edit-end}
use Rattle.fetch_create.proofs.Settings.{cleared_at, all-cleared}
use Rattle.fetch_create.proofs.versioning.remove_setting.Goals as goal

pub sections-init : goal.sections-init
sections-init c =
    let file = c.args.file.now in
    record { within = omega (arith, c.section_count-left.ensures); room = omega (arith, c.section_count-left.ensures); so_far = edit-start (cleared_at c.args.name.now c.args.key.now) file file file _ c.section_count-left.ensures }

pub sections-preserved : goal.sections-preserved
sections-preserved c =
    let f = cleared_at c.args.name.now c.args.key.now in
    let i = c.sections.invariant in
    record {
      within = omega (arith, i.within);
      room = edit-room f c.args.file.now c.sections.file _ c.sections.left c.sections-test.true i.room c.remove_key_at.ensures;
      so_far = edit-more f c.args.file.now c.sections.file _ c.sections.left c.sections-test.true i.within i.so_far c.remove_key_at.ensures;
    }

pub returns : goal.returns
returns c =
    edit-end (cleared_at c.args.name.now c.args.key.now) c.args.file.now c.sections.file c.sections.file c.sections.left (omega (arith, c.sections-test.false)) c.sections.invariant.so_far
    ∙ all-cleared c.args.name.now c.args.key.now c.args.file.now
