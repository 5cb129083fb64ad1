use Rattle.fetch_serve.proofs.Growing.{grow, silent}
use Rattle.fetch_serve.proofs.laws.replies_grow.Goals as goal

pub returns-clause-grow : goal.returns-clause-grow
returns-clause-grow c = grow

pub returns-clause-silent : goal.returns-clause-silent
returns-clause-silent c = silent
