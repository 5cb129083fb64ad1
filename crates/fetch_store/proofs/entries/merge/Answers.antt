use Rattle.std.proofs.Common.{rules, ◌≡◌, ◌+◌, ◌-◌, ◌++◌, ◌∷◌, [], length, sym, ap, ◌∙◌, arith, refl}
use Rattle.std.proofs.lemmas.List.{length-append, length-set}
use Rattle.fetch_store.proofs.Merging.{same_news, start, positive, old_step, new_step, over_in_order, over_values}
use Rattle.fetch_store.proofs.entries.merge.Goals as goal

pub loop-next-init : goal.loop-next-init
loop-next-init g c =
    let X = g.row.X.Denot in
    let olds = c.args.entries.now.items in
    let news = c.args.fresh.now.items in
    let A = c.extend_from_slice-fits.new.self.items in
    let fits = c.args.entries.now.ok in
    let fresh_fits = c.args.fresh.now.ok in
    let new_fits = c.extend_from_slice-fits.new.self.ok in
    let ok = c.extend_from_slice-fits.ensures.succeeds (omega (arith, c.as_slice.ensures.len, c.requires.room)) in
    let is : A ≡ olds ++ news = search rules in
    let len : length A ≡ length olds + length news = ap length is ∙ length-append olds news in
    record {
      merging = start A olds news c.len-kept.result c.len-end.result is (search rules) (search rules) c.requires.in_order c.requires.fresh_in_order c.requires.new_ids;
      ends = search rules;
      long = search rules;
      len = len;
      capacity = c.extend_from_slice-fits.ensures.capacity;
      fresh_capacity = refl;
    }

pub loop-end-init : goal.loop-end-init
loop-end-init g c =
    let X = g.row.X.Denot in
    let m = c.loop-next.invariant in
    let is = c.in-Some.ensures.items in
    let len = ap length is ∙ length-append c.pop.new.self.items (c.in-Some.next ∷ []) in
    record {
      merging = same_news _ _ _ _ _ is m.merging;
      ends = m.ends ∙ ap (λ n. c.loop-next.kept + n) len;
      long = m.long;
      len = m.len;
      capacity = m.capacity;
      fresh_capacity = search rules;
    }

pub loop-end-preserved : goal.loop-end-preserved
loop-end-preserved g c =
    let m = c.loop-end.invariant in
    let A = c.loop-end.entries.items in
    let above = sym c.end_is_above.ensures ∙ c.loop-end-test.true in
    let low = positive c.in-Some.next.0 c.loop-end.kept A (search rules) in
    let len = length-set A (c.loop-end.end - 1) c.index.result.now in
    record {
      merging = old_step A c.pop.new.self.items _ c.in-Some.next c.loop-end.kept c.loop-end.end (c.loop-end.end - 1) m.merging (omega (arith, m.ends)) m.long (c.loop-end.kept - 1) c.index.result.now (omega (arith, low)) (omega (arith, m.ends, low)) (search rules) (search rules);
      ends = omega (arith, m.ends, low);
      long = omega (arith, m.long, len);
      len = len ∙ m.len;
      capacity = search rules;
      fresh_capacity = m.fresh_capacity;
    }

pub loop-next-preserved : goal.loop-next-preserved
loop-next-preserved g c =
    let m = c.loop-end.invariant in
    let A = c.loop-end.entries.items in
    let len = length-set A (c.loop-end.end - 1) c.in-Some.next in
    record {
      merging = new_step A c.pop.new.self.items _ c.in-Some.next c.loop-end.kept c.loop-end.end (c.loop-end.end - 1) m.merging (omega (arith, m.ends)) m.long (omega (arith, m.ends)) (search rules);
      ends = omega (arith, m.ends);
      long = omega (arith, m.long, len);
      len = len ∙ m.len;
      capacity = search rules;
      fresh_capacity = m.fresh_capacity;
    }

pub returns-clause-in_order : goal.returns-clause-in_order
returns-clause-in_order g c =
    let m = c.loop-next.invariant in
    over_in_order c.loop-next.entries.items c.loop-next.fresh.items _ c.loop-next.kept c.loop-next.end m.merging (search rules)

pub returns-clause-values : goal.returns-clause-values
returns-clause-values g c =
    let m = c.loop-next.invariant in
    over_values c.loop-next.entries.items c.loop-next.fresh.items _ c.loop-next.kept c.loop-next.end m.merging (search rules) (search rules)
