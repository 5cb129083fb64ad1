use Rattle.std.proofs.Common.{rules, ◌∷◌, [], length, ap, ◌∙◌, arith}
use Rattle.std.proofs.lemmas.List.{length-append}
use Rattle.fetch_store.proofs.Merging.{old_moved, new_moved}
use Rattle.fetch_store.proofs.entries.merge_by.Goals as goal

pub loop-last-preserved : goal.loop-last-preserved
loop-last-preserved g c =
    let m = c.loop-last.invariant in
    let last = c.in-Some-pop_above.last in
    let fewer = ap length c.in-Some-pop_above.ensures.entries ∙ length-append c.pop_above.new.entries.items (last ∷ []) in
    let more = ap length c.push_reserved.ensures.items ∙ length-append c.loop-last.moved.items (last ∷ []) in
    record {
      merging = old_moved c.loop-last.entries.items c.pop_above.new.entries.items c.pop.new.self.items c.loop-last.moved.items c.push_reserved.new.self.items _ c.in-Some.next m.merging last c.in-Some-pop_above.ensures.entries c.push_reserved.ensures.items (search rules);
      len = omega (arith, m.len, fewer, more);
      capacity = search rules;
      moved_capacity = search rules;
    }

pub loop-next-preserved : goal.loop-next-preserved
loop-next-preserved g c =
    let m = c.loop-last.invariant in
    let same = c.in_default-pop_above.ensures.entries in
    let more = ap length c.push_reserved-in-Some.ensures.items ∙ length-append c.loop-last.moved.items (c.in-Some.next ∷ []) in
    let kept = ap length same in
    record {
      merging = new_moved c.loop-last.entries.items c.pop_above.new.entries.items c.pop.new.self.items c.loop-last.moved.items c.push_reserved-in-Some.new.self.items _ c.in-Some.next m.merging (search rules) c.push_reserved-in-Some.ensures.items (search rules);
      len = omega (arith, m.len, kept, more);
      capacity = search rules;
      moved_capacity = search rules;
    }
