use Rattle.std.proofs.Common.{◌≡◌, map, take}
use Rattle.fetch_lines.specs.References.{name_in}
use Rattle.fetch_specs.specs.declared.matching.Item.{Item}
use Rattle.fetch_conversation.proofs.mapped.items_of.Given as goal

abbrev pub invariant-loop-reference : goal.invariant-loop-reference
invariant-loop-reference l = map (λ (item : Item). item.full_ref_name) l.items.items ≡ map name_in (take l.reference-index l.refs)
