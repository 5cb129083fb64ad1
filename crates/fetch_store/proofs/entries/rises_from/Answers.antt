use Rattle.std.proofs.Common.{rules, ◌≡◌, true, sym, ap, ◌∙◌}
use Rattle.std.specs.Ordering.{is_lt}
use Rattle.fetch_base.specs.Id.{id_cmp}
use Rattle.fetch_base.proofs.Orders.{cmp_at}
use Rattle.fetch_store.proofs.Probes.{lesser, risen_from}
use Rattle.fetch_store.proofs.entries.rises_from.Goals as goal

pub returns-in-Some : goal.returns-in-Some
returns-in-Some g c so k d from within =
    let es = c.args.entries.now in
    let q = c.args.id.now in
    let e = c.in-Some.entry.now in
    let order = c.cmp.ensures ∙ cmp_at q e.0 in
    let under : is_lt (id_cmp q e.0) ≡ true = ap is_lt (sym order) ∙ sym c.is_lt.ensures ∙ so in
    risen_from es q c.requires c.args.place (search rules) e (search rules) (lesser (id_cmp q e.0) under) k d from within
