use Rattle.std.proofs.Common.{◌++◌, sym, ap, ◌∙◌, append-nil}
use Rattle.std.specs.Cmp.Lexicographic.{nat_list_cmp_total}
use Rattle.fetch_refs.specs.Overlay.{shown_lines}
use Rattle.fetch_refs.specs.Iter.{standing}
use Rattle.fetch_refs.specs.Slots.{each}
use Rattle.fetch_refs.proofs.Maps.{one-more}
use Rattle.fetch_refs.proofs.Sifted.{skipped, stood, sorted_kept, some_lines, no_lines}
use Rattle.fetch_refs.proofs.copies.copy_logs.Goals as goal

pub logs-preserved-in_ok-add : goal.logs-preserved-in_ok-add
logs-preserved-in_ok-add c = (
  one-more nat_list_cmp_total (standing (each shown_lines c.args.logs.now.entries)) c.logs.copy.entries (standing (each shown_lines c.logs.name-iterator)) (standing (each shown_lines c.next.new.self)) c.add.new.map.entries _ _ _ _
      (sorted_kept shown_lines c.args.logs.now.entries c.logs.invariant.1) c.logs.invariant.0
      (stood shown_lines c.logs.name-iterator _ _ _ c.next.new.self c.in-Some.ensures.steps (some_lines _ c.is_empty.result c.is_empty.ensures c.if-not-is_empty.true))
      c.in_ok-add.ensures c.in_ok-try_clone.ensures c.in_ok-copy_lines.ensures,
  c.logs.invariant.1,
)

pub logs-preserved : goal.logs-preserved
logs-preserved c = (
  ap (λ es. c.logs.copy.entries ++ es) (sym (skipped shown_lines c.logs.name-iterator _ _ c.next.new.self c.in-Some.ensures.steps (no_lines _ c.is_empty.result c.is_empty.ensures c.if-not-is_empty.false))) ∙ c.logs.invariant.0,
  c.logs.invariant.1,
)

pub returns-clause-entries : goal.returns-clause-entries
returns-clause-entries c = sym (append-nil c.logs.copy.entries) ∙ ap (λ es. c.logs.copy.entries ++ standing (each shown_lines es)) (sym c.in-None.ensures.steps.0) ∙ c.logs.invariant.0
