use Rattle.fetch_mirror.proofs.BornSo.{names_are_born}
use Rattle.fetch_mirror.proofs.laws.names_listed_are_those_born.Goals as goal

pub returns : goal.returns
returns c = names_are_born
