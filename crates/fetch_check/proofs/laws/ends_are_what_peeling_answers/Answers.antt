use Rattle.fetch_check.proofs.Told.{ends_peeled}
use Rattle.fetch_check.proofs.laws.ends_are_what_peeling_answers.Goals as goal

pub returns : goal.returns
returns c = ends_peeled
