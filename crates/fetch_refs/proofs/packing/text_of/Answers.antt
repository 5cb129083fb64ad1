use Rattle.std.proofs.Common.{◌++◌, sym, ap, ◌∙◌, append-nil}
use Rattle.std.specs.List.{flat_map}
use Rattle.fetch_refs.specs.Contents.{listed}
use Rattle.fetch_refs.specs.Iter.{standing}
use Rattle.fetch_refs.specs.Packed.{packed_line}
use Rattle.fetch_refs.specs.Slots.{each}
use Rattle.fetch_refs.proofs.Packs.{whole_text}
use Rattle.fetch_refs.proofs.packing.text_of.Goals as goal

pub returns : goal.returns
returns c =
    c.from.ensures
    ∙ whole_text c.args.list c.names.text.items c.args.names.now.entries c.names.invariant.1
    (sym (append-nil c.names.text.items) ∙ ap (λ es. c.names.text.items ++ flat_map packed_line (standing (each (listed c.args.list) es))) (sym c.in-None.ensures.steps.0) ∙ c.names.invariant.0)
