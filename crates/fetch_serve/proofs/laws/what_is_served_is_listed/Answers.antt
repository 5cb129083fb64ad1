use Rattle.fetch_serve.specs.Depths.{depth_of}
use Rattle.fetch_serve.proofs.Needed.{is_served, served_is, served_rise}
use Rattle.fetch_serve.proofs.laws.what_is_served_is_listed.Goals as goal

pub returns-clause-each : goal.returns-clause-each
returns-clause-each c = λ d r id s. (served_is d r (depth_of d r) id, is_served d r (depth_of d r) id s)

pub returns-clause-ascending : goal.returns-clause-ascending
returns-clause-ascending c = λ d r. served_rise d r (depth_of d r)
