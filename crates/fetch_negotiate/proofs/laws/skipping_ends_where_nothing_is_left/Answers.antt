use Rattle.fetch_negotiate.proofs.Passed.{offer_is}
use Rattle.fetch_negotiate.proofs.laws.skipping_ends_where_nothing_is_left.Goals as goal

pub returns : goal.returns
returns c g n = offer_is g n
