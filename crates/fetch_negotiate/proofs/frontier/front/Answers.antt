use Rattle.fetch_negotiate.proofs.Ranking.{front_is, none_is}
use Rattle.fetch_negotiate.proofs.frontier.front.Goals as goal

pub returns-in-Some-clause-found : goal.returns-in-Some-clause-found
returns-in-Some-clause-found c = front_is c.args.queue.now c.in-Some.rank.now c.in-Some.ensures.member c.in-Some.ensures.least

pub returns-in-None-clause-none : goal.returns-in-None-clause-none
returns-in-None-clause-none c = none_is c.args.queue.now c.in-None.ensures.variant.1
