use Rattle.fetch_wire.proofs.SessionSending.{feeds_more}
use Rattle.fetch_wire.proofs.laws.feeding_adds_to_what_is_sent.Goals as goal

pub returns : goal.returns
returns c = feeds_more
