use Rattle.std.proofs.Common.{◌≡◌, ◌++◌}
use Rattle.std.specs.Vec.{vec_len}
use Rattle.std.specs.Vec.Iter.{into_iter_items}
use Rattle.fetch_update.specs.Outcomes.{edits_of, updates_from}
use Rattle.fetch_update.proofs.adjusting.number.Given as goal

abbrev pub invariant-verdicts : goal.invariant-verdicts
invariant-verdicts l =
    record {
      next : (goal.iterator-verdicts).can_next l.mapping_index-iterator;
      ends : (goal.iterator-verdicts).is_finite l.mapping_index-iterator;
      edits : l.edits.items ++ edits_of (into_iter_items l.mapping_index-iterator) ≡ edits_of l.fn.verdicts.items;
      updates : l.updates.items ++ updates_from (vec_len l.edits) (into_iter_items l.mapping_index-iterator) ≡ updates_from 0 l.fn.verdicts.items;
    }
