use Rattle.std.proofs.Common.{rules, ◌≡◌, ◌+◌, ◌-◌, ◌/◌, true, false, sym, ap, ◌∙◌, arith}
use Rattle.std.specs.Ordering.{is_eq, is_lt}
use Rattle.std.specs.Cmp.{Equal-is}
use Rattle.std.proofs.lemmas.List.{get_or_default}
use Rattle.fetch_base.specs.Id.{id_cmp}
use Rattle.fetch_base.proofs.Ids.{id_cmp_exact}
use Rattle.fetch_base.proofs.Orders.{cmp_at}
use Rattle.fetch_store.proofs.Probes.{greater, lesser, left_of, right_of, missed, probing_of}
use Rattle.fetch_store.proofs.entries.place_in_order.Goals as goal

pub returns-then-is_eq-clause-within : goal.returns-then-is_eq-clause-within
returns-then-is_eq-clause-within g c = omega (arith, c.loop-low.invariant.end, c.loop-low-test.true)

pub returns-then-is_eq-clause-place : goal.returns-then-is_eq-clause-place
returns-then-is_eq-clause-place g c d =
    let q = c.args.id.now in
    let e = c.index-entries-middle.result in
    let order = c.cmp-order.ensures ∙ cmp_at q e.0 in
    let tied : is_eq (id_cmp q e.0) ≡ true = ap is_eq (sym order) ∙ search rules in
    ap (λ x. x.0) (get_or_default c.args.entries.now (c.loop-low.low + (c.loop-low.high - c.loop-low.low) / 2) d e (omega (arith, c.loop-low.invariant.end, c.loop-low-test.true)) ∙ sym c.index-entries-middle.is)
    ∙ sym (id_cmp_exact q e.0 ((Equal-is (id_cmp q e.0)).0 tied))

pub loop-low-preserved-then-is_lt : goal.loop-low-preserved-then-is_lt
loop-low-preserved-then-is_lt g c =
    let es = c.args.entries.now in
    let q = c.args.id.now in
    let m = c.loop-low.invariant in
    let low = c.loop-low.low in
    let high = c.loop-low.high in
    let e = c.index-entries-middle.result in
    let order = c.cmp-order.ensures ∙ cmp_at q e.0 in
    let under : is_lt (id_cmp q e.0) ≡ true = ap is_lt (sym order) ∙ search rules in
    let p = left_of es q c.requires low high (low + (high - low) / 2) (probing_of es q low high m) (omega (arith, m.end, c.loop-low-test.true)) e c.index-entries-middle.is (lesser (id_cmp q e.0) under) in
    record { below = p.below; above = p.above; inside = omega arith; end = omega (arith, m.end, m.inside) }

pub loop-low-preserved : goal.loop-low-preserved
loop-low-preserved g c =
    let es = c.args.entries.now in
    let q = c.args.id.now in
    let m = c.loop-low.invariant in
    let low = c.loop-low.low in
    let high = c.loop-low.high in
    let e = c.index-entries-middle.result in
    let order = c.cmp-order.ensures ∙ cmp_at q e.0 in
    let other : is_eq (id_cmp q e.0) ≡ false = ap is_eq (sym order) ∙ search rules in
    let over : is_lt (id_cmp q e.0) ≡ false = ap is_lt (sym order) ∙ search rules in
    let p = right_of es q c.requires low high (low + (high - low) / 2) (probing_of es q low high m) (omega (arith, m.end, c.loop-low-test.true)) e c.index-entries-middle.is (greater (id_cmp q e.0) other over) in
    record { below = p.below; above = p.above; inside = omega (arith, c.loop-low-test.true); end = m.end }

pub returns-clause-place : goal.returns-clause-place
returns-clause-place g c = missed c.args.entries.now c.args.id.now c.loop-low.low c.loop-low.high (probing_of c.args.entries.now c.args.id.now c.loop-low.low c.loop-low.high c.loop-low.invariant) (search rules)
