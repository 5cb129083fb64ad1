use Rattle.fetch_serve.proofs.Growing.{nothing_first}
use Rattle.fetch_serve.proofs.laws.nothing_is_said_first.Goals as goal

pub returns : goal.returns
returns c = nothing_first
