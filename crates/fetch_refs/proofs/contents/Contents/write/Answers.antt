use Rattle.std.proofs.Common.{None, unwrap_or, refl, ap, sym, ◌∙◌}
use Rattle.std.specs.Prelude.{is_some, Option}
use Rattle.std.specs.Map.{lookup}
use Rattle.std.specs.BTreeMap.{is_at}
use Rattle.fetch_refs.specs.declared.slot.Slot.{Slot}
use Rattle.fetch_refs.specs.Contents.{value_of, packed_of}
use Rattle.fetch_refs.specs.Names.{Names, PackedList, name_cmp}
use Rattle.fetch_refs.specs.Overlay.{logs_of}
use Rattle.fetch_refs.proofs.Undoing.{slot_put, slot_undone, both_of}
use Rattle.fetch_refs.proofs.contents.Contents.write.Goals as goal

pub returns-clause-written : goal.returns-clause-written
returns-clause-written c =
    both_of (λ (m : Names) (p : PackedList). record { hash = c.args.self.now.hash; names = m; logs = logs_of c.args.self.now.logs.entries; packed = p })
    (slot_put value_of c.args.self.now.names.entries c.insert.new.self.entries c.in_ok-key.key c.args.name.now c.args.slot c.in_ok-key.ensures c.in_ok-old.ensures.updates.0)
    (slot_put packed_of c.args.self.now.names.entries c.insert.new.self.entries c.in_ok-key.key c.args.name.now c.args.slot c.in_ok-key.ensures c.in_ok-old.ensures.updates.0)

pub returns-clause-undo : goal.returns-clause-undo
returns-clause-undo c =
    let nothing : Slot = record { value = None; packed = None } in
    let was = c.slot_or_none.ensures ∙ ap (λ (o : Option Slot). unwrap_or o nothing) c.in_ok-old.ensures.old in
    record {
      shown =
          both_of (λ (m : Names) (p : PackedList). record { hash = c.args.self.now.hash; names = m; logs = logs_of c.args.self.now.logs.entries; packed = p })
          (slot_undone value_of c.args.self.now.names.entries c.insert.new.self.entries c.in_ok-key.key c.args.name.now c.in_ok-name.name c.args.slot c.slot_or_none.result nothing c.in_ok-key.ensures c.in_ok-name.ensures c.in_ok-old.ensures.updates.0 was refl)
          (slot_undone packed_of c.args.self.now.names.entries c.insert.new.self.entries c.in_ok-key.key c.args.name.now c.in_ok-name.name c.args.slot c.slot_or_none.result nothing c.in_ok-key.ensures c.in_ok-name.ensures c.in_ok-old.ensures.updates.0 was refl);
      place = ap (λ k. is_some (lookup (is_at (name_cmp k)) c.insert.new.self.entries)) (c.in_ok-name.ensures ∙ sym c.in_ok-key.ensures) ∙ ap is_some c.in_ok-old.ensures.updates.1;
    }
