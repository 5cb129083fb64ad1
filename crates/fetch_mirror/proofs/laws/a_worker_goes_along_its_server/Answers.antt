use Rattle.fetch_mirror.proofs.MirrorAlong.{worker_fetches, worker_long_pack, worker_long_request, worker_wants_nothing}
use Rattle.fetch_mirror.proofs.laws.a_worker_goes_along_its_server.Goals as goal

pub returns-clause-fetches : goal.returns-clause-fetches
returns-clause-fetches c = worker_fetches

pub returns-clause-wants_nothing : goal.returns-clause-wants_nothing
returns-clause-wants_nothing c = worker_wants_nothing

pub returns-clause-long_pack : goal.returns-clause-long_pack
returns-clause-long_pack c = worker_long_pack

pub returns-clause-long_request : goal.returns-clause-long_request
returns-clause-long_request c = worker_long_request
