use Rattle.fetch_update.proofs.Rows.{checked_out_is}
use Rattle.fetch_update.proofs.laws.checked_out_comes_first.Goals as goal

pub returns : goal.returns
returns c = λ p s m dirs taken r. checked_out_is p s m dirs taken r
