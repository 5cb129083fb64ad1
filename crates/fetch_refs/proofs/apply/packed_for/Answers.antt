use Rattle.std.proofs.Common.{ap, sym, ◌∙◌}
use Rattle.fetch_refs.specs.Contents.{shown_in}
use Rattle.fetch_refs.specs.Packed.{packed_by, with_packed}
use Rattle.fetch_refs.specs.Slots.{with_slot}
use Rattle.fetch_refs.specs.declared.edit.PackedRefs.{PackedRefs}
use Rattle.fetch_refs.proofs.Overlays.{same_slot}
use Rattle.fetch_refs.proofs.apply.packed_for.Goals as goal

pub returns-in-Never : goal.returns-in-Never
returns-in-Never c =
    let list = (shown_in c.args.contents.now).packed in
    ap (with_slot list c.args.name.now) c.packed_id.ensures ∙ same_slot list c.args.name.now ∙ ap (λ (how : PackedRefs). with_packed list c.args.name.now (packed_by how c.args.new.now)) (sym c.in-Never.is)

pub returns-in-Only : goal.returns-in-Only
returns-in-Only c =
    let list = (shown_in c.args.contents.now).packed in
    ap (with_slot list c.args.name.now) c.direct_id.ensures ∙ ap (λ (how : PackedRefs). with_packed list c.args.name.now (packed_by how c.args.new.now)) (sym c.in-Only.is)
