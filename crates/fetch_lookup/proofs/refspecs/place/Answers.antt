use Rattle.std.proofs.Common.{◌∙◌}
use Rattle.fetch_lookup.proofs.Orders.{insert_spec}
use Rattle.fetch_lookup.proofs.refspecs.place.Goals as goal

pub returns : goal.returns
returns c = c.in_ok-insert.ensures.keys ∙ insert_spec c.args.set.now.keys c.args.spec
