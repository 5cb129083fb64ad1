use Rattle.fetch_conversation.proofs.Served as served
use Rattle.fetch_conversation.proofs.laws.a_served_conversation.Goals as goal

-- src/laws.rt:11:1
pub returns-clause-concluded : goal.returns-clause-concluded
returns-clause-concluded g c = served.concluded

-- src/laws.rt:11:1
pub returns-clause-broken : goal.returns-clause-broken
returns-clause-broken g c = served.broken
