use Rattle.fetch_update.proofs.Rows.{rejected_told}
use Rattle.fetch_update.proofs.Wholes.{rejects_verdict}
use Rattle.fetch_update.proofs.laws.rejecting_modes_have_their_rows.Goals as goal

pub returns : goal.returns
returns c = record { told = λ p s m. rejects_verdict p s m; holds = λ p s m mode r. rejected_told p s m mode r }
