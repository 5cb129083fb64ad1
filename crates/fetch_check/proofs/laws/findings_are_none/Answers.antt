use Rattle.fetch_check.proofs.Told.{none_told}
use Rattle.fetch_check.proofs.laws.findings_are_none.Goals as goal

pub returns : goal.returns
returns c = none_told
