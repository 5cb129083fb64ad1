use Rattle.fetch_wire.proofs.SessionSending.{sends_before}
use Rattle.fetch_wire.proofs.laws.sending_and_feeding_commute.Goals as goal

pub returns : goal.returns
returns c = sends_before
