use Rattle.fetch_negotiate.proofs.Descent.{ancestor_is}
use Rattle.fetch_negotiate.proofs.laws.ancestors_end_lines.Goals as goal

pub returns : goal.returns
returns c = ancestor_is
