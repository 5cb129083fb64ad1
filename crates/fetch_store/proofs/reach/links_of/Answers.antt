use Rattle.std.proofs.Common.{sym, ap, ◌∙◌}
use Rattle.fetch_store.specs.Closed.{holding}
use Rattle.fetch_objects.specs.References.{ids_left, seen}
use Rattle.fetch_store.specs.Spread.{next_to, nexts_in}
use Rattle.fetch_store.proofs.Marking.{listed_next}
use Rattle.fetch_store.proofs.reach.links_of.Goals as goal

pub returns : goal.returns
returns c d =
    let objects = c.args.store.now.objects in
    let border = c.args.border.now in
    listed_next objects border c.at-id.result.0 (seen c.at-id.result.1) c.contains.result (ids_left c.links_within.result) c.at-id.ensures.object c.contains.ensures c.links_within.ensures
    ∙ ap (next_to (nexts_in (holding objects border))) (sym (c.at-id.ensures.id d))
