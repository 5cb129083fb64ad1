use Rattle.std.proofs.Common.{rules}
use Rattle.std.specs.Prelude.{is_some}
use Rattle.fetch_refs.specs.Contents.{packed_slot}
use Rattle.fetch_refs.specs.declared.slot.Slot.{Slot}
use Rattle.fetch_refs.proofs.Sifted.{retained, packed-names, packed-list}
use Rattle.fetch_refs.proofs.packing.pack_all.Goals as goal

pub returns-clause-names : goal.returns-clause-names
returns-clause-names c =
    packed-names _ _ c.retain.ensures.was_ordered c.retain.ensures.ordered
    (retained _ (λ (s : Slot). is_some s.value) packed_slot _ (λ k v b w f' t. search rules) _ _ c.retain.ensures.filtered)

pub returns-clause-packed : goal.returns-clause-packed
returns-clause-packed c =
    packed-list _ _ c.retain.ensures.was_ordered c.retain.ensures.ordered
    (retained _ (λ (s : Slot). is_some s.value) packed_slot _ (λ k v b w f' t. search rules) _ _ c.retain.ensures.filtered)
