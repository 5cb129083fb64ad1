use Rattle.fetch_lookup.proofs.Ascending.{ascends, spec_total}
use Rattle.fetch_lookup.proofs.laws.refspecs_ascend.Goals as goal

pub returns : goal.returns
returns c = ascends spec_total
