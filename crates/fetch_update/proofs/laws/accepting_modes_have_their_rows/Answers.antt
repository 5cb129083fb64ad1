use Rattle.fetch_update.proofs.Rows.{accepted_told}
use Rattle.fetch_update.proofs.Wholes.{accepts_verdict}
use Rattle.fetch_update.proofs.laws.accepting_modes_have_their_rows.Goals as goal

pub returns : goal.returns
returns c = record { told = λ p s m wet. accepts_verdict p s m wet; holds = λ p s m mode wet a. accepted_told p s m wet mode a }
