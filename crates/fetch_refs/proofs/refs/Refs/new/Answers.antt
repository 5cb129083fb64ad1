use Rattle.std.proofs.Common.{sym, ap, ◌∙◌}
use Rattle.fetch_refs.specs.Names.{RefsValue}
use Rattle.fetch_refs.specs.Packed.{packed_text}
use Rattle.fetch_refs.proofs.Packs.{no_text}
use Rattle.fetch_refs.proofs.refs.Refs.new.Goals as goal

pub invariant_of-result : goal.invariant_of-result
invariant_of-result c = c.from.ensures ∙ c.new-2.ensures.items ∙ no_text ∙ ap (λ (r : RefsValue). packed_text r.packed) (sym c.new.ensures)
