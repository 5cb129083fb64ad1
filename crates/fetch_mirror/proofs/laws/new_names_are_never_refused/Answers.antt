use Rattle.fetch_mirror.proofs.Settles.{new_unrefused}
use Rattle.fetch_mirror.proofs.laws.new_names_are_never_refused.Goals as goal

pub returns : goal.returns
returns c = new_unrefused
