use Rattle.fetch_store.specs.Closed.{holding}
use Rattle.fetch_store.specs.Honest.{pack_of}
use Rattle.fetch_store.proofs.Takes.{first_told}
use Rattle.fetch_store.proofs.take.first_missing_of_take.Goals as goal

pub returns : goal.returns
returns c =
    first_told (holding c.args.store.now.objects c.args.border.now) c.args.take.now.wants.now (pack_of c.args.take.now) c.in_ok-held.held c.in_ok-border.border c.first_missing_within.result c.in_ok-held.ensures c.in_ok-border.ensures
    c.first_missing_within.ensures
