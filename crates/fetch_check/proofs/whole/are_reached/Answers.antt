use Rattle.fetch_store.specs.Closed.{holding}
use Rattle.fetch_check.proofs.Counts.{told_reached}
use Rattle.fetch_check.proofs.whole.are_reached.Goals as goal

pub returns : goal.returns
returns c =
    told_reached c.args.refs.now.names (holding c.args.store.now.objects c.args.border.now) c.in_ok-reached.reached c.in_ok-reached.ensures.ids c.in_ok-reached.ensures.ascending c.len.result c.len-2.result c.len.ensures c.len-2.ensures
