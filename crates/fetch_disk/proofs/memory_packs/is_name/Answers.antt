use Rattle.std.proofs.Common.{◌∙◌}
use Rattle.fetch_base.proofs.Orders.{eq_is}
use Rattle.fetch_disk.proofs.memory_packs.is_name.Goals as goal

pub returns : goal.returns
returns c = c.eq.ensures ∙ eq_is c.args.name.now c.args.other.now
