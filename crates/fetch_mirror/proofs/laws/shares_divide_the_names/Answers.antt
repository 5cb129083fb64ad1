use Rattle.fetch_mirror.proofs.Divided.{divided}
use Rattle.fetch_mirror.proofs.laws.shares_divide_the_names.Goals as goal

pub returns : goal.returns
returns c = divided
