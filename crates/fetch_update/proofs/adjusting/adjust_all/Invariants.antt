use Rattle.std.proofs.Common.{◌≡◌, ℕ, List, ◌++◌, map}
use Rattle.std.specs.BTreeSet.{contains}
use Rattle.std.specs.List.{list_any}
use Rattle.std.specs.Str.{bytes_eq}
use Rattle.std.specs.Vec.Iter.{into_iter_items}
use Rattle.fetch_refs.specs.Names.{name_cmp}
use Rattle.fetch_refs.specs.declared.edit.RefEdit.{RefEdit}
use Rattle.fetch_update.specs.Outcomes.{adjusted}
use Rattle.fetch_update.proofs.adjusting.adjust_all.Given as goal

abbrev pub invariant-verdicts : goal.invariant-verdicts
invariant-verdicts l =
    record {
      next : (goal.iterator-verdicts).can_next l.index-iterator;
      ends : (goal.iterator-verdicts).is_finite l.index-iterator;
      so_far : (edits : List RefEdit) → ((name : List ℕ) → contains name_cmp l.names name ≡ list_any (λ e. bytes_eq e.name name) edits) → l.out.items ++ map (λ v. (v.0, adjusted l.refs.names edits v.1 v.1.edit)) (into_iter_items l.index-iterator) ≡ map (λ v. (v.0, adjusted l.refs.names edits v.1 v.1.edit)) l.fn.verdicts.items;
    }
