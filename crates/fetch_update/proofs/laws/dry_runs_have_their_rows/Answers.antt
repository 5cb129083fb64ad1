use Rattle.fetch_update.proofs.Rows.{guessed_told}
use Rattle.fetch_update.proofs.Wholes.{guesses_verdict}
use Rattle.fetch_update.proofs.laws.dry_runs_have_their_rows.Goals as goal

pub returns : goal.returns
returns c = record { told = λ p s m dry. guesses_verdict p s m dry; holds = λ p s m mode dry r. guessed_told p s m dry mode r }
