use Rattle.fetch_mirror.proofs.WorkerAlong.{fetched_along, unlisted_along, unreceived_along}
use Rattle.fetch_mirror.proofs.laws.a_fetch_goes_along_by_stages.Goals as goal

pub returns-clause-fetched : goal.returns-clause-fetched
returns-clause-fetched c = fetched_along

pub returns-clause-unlisted : goal.returns-clause-unlisted
returns-clause-unlisted c = unlisted_along

pub returns-clause-unreceived : goal.returns-clause-unreceived
returns-clause-unreceived c = unreceived_along
