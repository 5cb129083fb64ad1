use Rattle.std.proofs.Common.{◌++◌, sym, ap, ◌∙◌, append-nil}
use Rattle.std.specs.Cmp.Lexicographic.{nat_list_cmp_total}
use Rattle.fetch_refs.specs.Contents.{held}
use Rattle.fetch_refs.specs.Iter.{standing}
use Rattle.fetch_refs.specs.Slots.{each}
use Rattle.fetch_refs.proofs.Maps.{one-more}
use Rattle.fetch_refs.proofs.Sifted.{skipped, stood, sorted_kept, is_there, not_held}
use Rattle.fetch_refs.proofs.copies.copy_names.Goals as goal

pub names-preserved-in_ok-add : goal.names-preserved-in_ok-add
names-preserved-in_ok-add c = (
  one-more nat_list_cmp_total (standing (each held c.args.names.now.entries)) c.names.copy.entries (standing (each held c.names.name-iterator)) (standing (each held c.next.new.self)) c.add.new.map.entries _ _ _ _
      (sorted_kept held c.args.names.now.entries c.names.invariant.1) c.names.invariant.0
      (stood held c.names.name-iterator _ _ _ c.next.new.self c.in-Some.ensures.steps (is_there _ c.is_held.result c.is_held.ensures c.if-is_held.true))
      c.in_ok-add.ensures c.in_ok-try_clone.ensures c.in_ok-copy_slot.ensures,
  c.names.invariant.1,
)

pub names-preserved : goal.names-preserved
names-preserved c = (
  ap (λ es. c.names.copy.entries ++ es) (sym (skipped held c.names.name-iterator _ _ c.next.new.self c.in-Some.ensures.steps (not_held _ c.is_held.result c.is_held.ensures c.if-is_held.false))) ∙ c.names.invariant.0,
  c.names.invariant.1,
)

pub returns-clause-entries : goal.returns-clause-entries
returns-clause-entries c = sym (append-nil c.names.copy.entries) ∙ ap (λ es. c.names.copy.entries ++ standing (each held es)) (sym c.in-None.ensures.steps.0) ∙ c.names.invariant.0
