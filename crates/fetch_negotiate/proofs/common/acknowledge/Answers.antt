use Rattle.fetch_negotiate.specs.Reading.{read_in}
use Rattle.fetch_negotiate.proofs.Commons.{common_acknowledged}
use Rattle.fetch_negotiate.proofs.common.acknowledge.Goals as goal

pub returns-clause-common : goal.returns-clause-common
returns-clause-common c =
    rw c.in_ok-push.ensures.items (
      c.requires.common.0,
      common_acknowledged (read_in c.args.table.now) c.args.border.now c.args.common.now.acknowledged.items c.args.common.now.finished c.args.common.now.commits.items c.args.common.now.closed c.args.id.now c.requires.common.1,
    )
