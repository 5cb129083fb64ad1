use Rattle.std.proofs.Common.{◌≡◌, true, sym, ap, ◌∙◌, arith}
use Rattle.std.specs.Ordering.{is_gt}
use Rattle.fetch_base.specs.Id.{id_cmp}
use Rattle.fetch_base.proofs.Orders.{cmp_at}
use Rattle.fetch_store.proofs.Probes.{only_greater, risen_to}
use Rattle.fetch_store.proofs.entries.rises_to.Goals as goal

pub returns : goal.returns
returns g c so k d lt =
    let es = c.args.entries.now in
    let q = c.args.id.now in
    let e = c.index-entries-place.result in
    let order = c.cmp.ensures ∙ cmp_at q e.0 in
    let over : is_gt (id_cmp q e.0) ≡ true = ap is_gt (sym order) ∙ sym c.is_gt.ensures ∙ so in
    risen_to es q c.requires.in_order c.args.place (omega (arith, c.if-place-eq0.false)) c.requires.within e c.index-entries-place.is (only_greater (id_cmp q e.0) over) k d lt
