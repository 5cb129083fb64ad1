use Rattle.fetch_negotiate.proofs.Commons.{marked_push}
use Rattle.fetch_negotiate.proofs.Onces.{adds}
use Rattle.fetch_negotiate.proofs.common.mark.Goals as goal

pub returns-clause-marked : goal.returns-clause-marked
returns-clause-marked c =
    rw (c.push_reserved.ensures.items, c.in_ok-reserve.ensures.items)
    (marked_push c.args.common.now.marked c.insert.new.self c.args.common.now.commits.items c.args.id.now c.requires (adds c.args.common.now.marked c.insert.new.self c.args.id.now c.in_ok-insert.ensures.updates))
