use Rattle.std.proofs.Common.{◌≡◌, ◌<◌, List, length, sym, ap, subst, ◌∙◌, arith}
use Rattle.std.specs.Prelude.{IfSome}
use Rattle.std.specs.List.Sorted.{IsPermutation, IsSorted}
use Rattle.fetch_base.specs.declared.id.ObjectId.{ObjectId}
use Rattle.fetch_store.specs.Found.{there, with_each}
use Rattle.fetch_store.specs.Spread.{IsWithin}
use Rattle.fetch_base.specs.Id.{id_cmp}
use Rattle.fetch_base.proofs.Orders.{cmp_is}
use Rattle.fetch_store.proofs.Spreading.{spreading_begins, spreading_at, looked_on, looked_all, spread_is, few_none, few_more, in_order, same_members}
use Rattle.fetch_store.proofs.walk.spread.Goals as goal
use Rattle.fetch_store.proofs.walk.spread.Goals.{then-loop-done-test+else-is_below, else-loop-done-test}

pub loop-done-init : goal.loop-done-init
loop-done-init g c =
    let nexts = g.N.Next.nexts c.args.next.now in
    record {
      spreading = spreading_begins nexts c.args.starts.now c.add_each.new.found (c.in_ok-add_each.ensures.found ∙ ap (λ (xs : List ObjectId). with_each xs (there nexts c.args.starts.now)) c.new-found.ensures);
      few = few_none c.args.limit;
      behind = omega arith;
      steps = omega (arith, c.in_ok-add_each.ensures.steps);
    }

pub loop-done-preserved : goal.loop-done-preserved
loop-done-preserved g c =
    let nexts = g.N.Next.nexts c.args.next.now in
    let s = c.loop-done.invariant.spreading in
    let begin = c.in_ok-done.ensures.begin in
    record {
      spreading = spreading_at nexts c.args.starts.now c.loop-done.found c.loop-done.done c.loop-done.level s c.add_level.new.found c.in_ok-done.done c.in_ok-done.ensures.found begin;
      few = few_more c.args.limit c.loop-done.level (c.is_below.ensures.0 c.if-is_below.true);
      behind = omega (arith, begin, c.loop-done.invariant.behind);
      steps =
          let looked = looked_on nexts c.args.starts.now c.loop-done.found c.loop-done.done c.loop-done.level s c.add_level.new.found c.in_ok-done.done c.in_ok-done.ensures.found begin in
          omega (arith, looked, c.in_ok-done.ensures.steps, c.loop-done.invariant.steps);
    }

-- the ids found, in order
moved : (found items sorted result : List ObjectId) → items ≡ found → IsPermutation items sorted → result ≡ sorted → IsPermutation found result
moved found items sorted result is permuted ends = subst (λ (xs : List ObjectId). IsPermutation found xs) (sym ends) (subst (λ (xs : List ObjectId). IsPermutation xs sorted) is permuted)

pub returns-clause-ids : goal.returns-clause-ids
returns-clause-ids g c =
    let nexts = g.N.Next.nexts c.args.next.now in
    let over : c.loop-done.done < length c.loop-done.found → IfSome c.args.limit (λ n. c.loop-done.level < n) → ⊥ =
    λ lt some. elim c.loop-done-test.branch [ then-loop-done-test+else-is_below w ↦ absurd (cc (sym w.if-is_below.false ∙ w.is_below.ensures.1 some)) | else-loop-done-test w ↦ absurd (omega arith) ] in
    same_members (IsWithin nexts c.args.starts.now c.args.limit) c.loop-done.found c.from.result
    (moved c.loop-done.found c.into_vec-ids.result.items c.sort_unstable.new.self.items c.from.result c.into_vec-ids.ensures c.sort_unstable.ensures.permutation c.from.ensures)
    (spread_is nexts c.args.starts.now c.loop-done.found c.loop-done.done c.loop-done.level c.loop-done.invariant.spreading c.args.limit c.loop-done.invariant.few over)

pub returns-clause-ascending : goal.returns-clause-ascending
returns-clause-ascending g c =
    in_order c.loop-done.found c.from.result
    (moved c.loop-done.found c.into_vec-ids.result.items c.sort_unstable.new.self.items c.from.result c.into_vec-ids.ensures c.sort_unstable.ensures.permutation c.from.ensures) c.loop-done.invariant.spreading.distinct
    (subst (IsSorted id_cmp) (sym c.from.ensures) (subst (λ cmp. IsSorted cmp c.sort_unstable.new.self.items) cmp_is c.sort_unstable.ensures.sorted))

pub returns-clause-cost : goal.returns-clause-cost
returns-clause-cost g c =
    let nexts = g.N.Next.nexts c.args.next.now in
    let looked = looked_all nexts c.args.starts.now c.loop-done.found c.loop-done.done c.loop-done.level c.loop-done.invariant.spreading c.from.result
    (moved c.loop-done.found c.into_vec-ids.result.items c.sort_unstable.new.self.items c.from.result c.into_vec-ids.ensures c.sort_unstable.ensures.permutation c.from.ensures) in
    omega (arith, looked, c.loop-done.invariant.steps)
