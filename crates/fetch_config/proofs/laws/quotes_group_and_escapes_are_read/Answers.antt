use Rattle.fetch_config.proofs.Marks.{quotes_group}
use Rattle.fetch_config.proofs.laws.quotes_group_and_escapes_are_read.Goals as goal

pub returns : goal.returns
returns c = quotes_group
