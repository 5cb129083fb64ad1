use Rattle.std.proofs.Common.{refl}
use Rattle.fetch_base.proofs.Ids.{id_cmp_total}
use Rattle.fetch_refs.proofs.Maps.{one-more}
use Rattle.fetch_negotiate.proofs.commits.copy_table.Goals as goal

pub ids-preserved : goal.ids-preserved
ids-preserved c =
    (one-more id_cmp_total c.args.table.now.entries c.ids.copy.entries c.ids.id-iterator c.next.new.self c.put.new.table.entries _ _ _ _ c.ids.invariant.1 c.ids.invariant.0 c.in-Some.ensures.steps c.in_ok-put.ensures refl c.in_ok-copy_found.ensures, c.ids.invariant.1)
