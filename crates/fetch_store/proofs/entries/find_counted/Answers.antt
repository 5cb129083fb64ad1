use Rattle.std.proofs.Common.{rules, ◌≡◌, ◌+◌, ◌-◌, ◌/◌, length, true, false, sym, ap, ◌∙◌, arith}
use Rattle.std.specs.Ordering.{is_eq, is_lt}
use Rattle.std.specs.Cmp.{Equal-is}
use Rattle.fetch_base.specs.Id.{id_cmp}
use Rattle.fetch_base.proofs.Orders.{cmp_at}
use Rattle.fetch_store.proofs.Probes.{halved_at, greater, lesser, left_of, right_of, hit, missed}
use Rattle.fetch_store.proofs.entries.find_counted.Goals as goal

pub returns-then-is_eq-clause-value : goal.returns-then-is_eq-clause-value
returns-then-is_eq-clause-value g c =
    let es = c.args.entries.now in
    let q = c.args.id.now in
    let e = c.index-entries-middle.result in
    let order = c.cmp-order.ensures ∙ cmp_at q e.0 in
    let tied : is_eq (id_cmp q e.0) ≡ true = ap is_eq (sym order) ∙ search rules in
    sym (hit es q c.requires c.loop-low.low c.loop-low.high (c.loop-low.low + (c.loop-low.high - c.loop-low.low) / 2) c.loop-low.invariant.probing (search rules) e c.index-entries-middle.is ((Equal-is (id_cmp q e.0)).0 tied))

pub returns-then-is_eq-clause-steps : goal.returns-then-is_eq-clause-steps
returns-then-is_eq-clause-steps g c =
    let m = c.loop-low.invariant in
    let low = c.loop-low.low in
    let high = c.loop-low.high in
    let before = c.args.steps.now in
    let both = halved_at (c.loop-low.steps - before) (c.tick.new.self - before) (high - low) 0 (length c.args.entries.now) (omega (arith, m.rises, c.tick.ensures)) m.half (omega (arith, c.loop-low-test.true)) (omega arith) in
    (c.tick.new.self - before, omega (arith, m.rises, c.tick.ensures), both.1)

pub loop-low-preserved-then-is_lt : goal.loop-low-preserved-then-is_lt
loop-low-preserved-then-is_lt g c =
    let es = c.args.entries.now in
    let q = c.args.id.now in
    let m = c.loop-low.invariant in
    let low = c.loop-low.low in
    let high = c.loop-low.high in
    let before = c.args.steps.now in
    let e = c.index-entries-middle.result in
    let order = c.cmp-order.ensures ∙ cmp_at q e.0 in
    let under : is_lt (id_cmp q e.0) ≡ true = ap is_lt (sym order) ∙ search rules in
    let both = halved_at (c.loop-low.steps - before) (c.tick.new.self - before) (high - low) (low + (high - low) / 2 - low) (length es) (omega (arith, m.rises, c.tick.ensures)) m.half (omega (arith, c.loop-low-test.true)) (omega arith) in
    record {
      probing = left_of es q c.requires low high (low + (high - low) / 2) m.probing (omega (arith, m.end, c.loop-low-test.true)) e c.index-entries-middle.is (lesser (id_cmp q e.0) under);
      inside = omega arith;
      end = omega (arith, m.end, m.inside);
      rises = omega (arith, m.rises, c.tick.ensures);
      half = both.0;
      cost = both.1;
    }

pub loop-low-preserved : goal.loop-low-preserved
loop-low-preserved g c =
    let es = c.args.entries.now in
    let q = c.args.id.now in
    let m = c.loop-low.invariant in
    let low = c.loop-low.low in
    let high = c.loop-low.high in
    let before = c.args.steps.now in
    let e = c.index-entries-middle.result in
    let order = c.cmp-order.ensures ∙ cmp_at q e.0 in
    let other : is_eq (id_cmp q e.0) ≡ false = ap is_eq (sym order) ∙ search rules in
    let over : is_lt (id_cmp q e.0) ≡ false = ap is_lt (sym order) ∙ search rules in
    let both = halved_at (c.loop-low.steps - before) (c.tick.new.self - before) (high - low) (high - (low + (high - low) / 2 + 1)) (length es) (omega (arith, m.rises, c.tick.ensures)) m.half (omega (arith, c.loop-low-test.true)) (omega arith) in
    record {
      probing = right_of es q c.requires low high (low + (high - low) / 2) m.probing (omega (arith, m.end, c.loop-low-test.true)) e c.index-entries-middle.is (greater (id_cmp q e.0) other over);
      inside = omega (arith, c.loop-low-test.true);
      end = m.end;
      rises = omega (arith, m.rises, c.tick.ensures);
      half = both.0;
      cost = both.1;
    }

pub returns-clause-value : goal.returns-clause-value
returns-clause-value g c = sym (missed c.args.entries.now c.args.id.now c.loop-low.low c.loop-low.high c.loop-low.invariant.probing (search rules))
