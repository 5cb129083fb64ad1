use Rattle.race_cli.proofs.Told.{told}
use Rattle.race_cli.proofs.laws.a_race_is_told_by_its_journal.Goals as goal

pub returns : goal.returns
returns c = told
