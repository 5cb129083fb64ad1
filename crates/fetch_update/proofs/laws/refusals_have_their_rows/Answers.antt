use Rattle.fetch_update.proofs.Rows.{refused_told}
use Rattle.fetch_update.proofs.Refused.{refuses_verdict}
use Rattle.fetch_update.proofs.laws.refusals_have_their_rows.Goals as goal

pub returns : goal.returns
returns c = λ p s m e. (λ is. refuses_verdict p s m e is, λ r. refused_told p s m e r)
