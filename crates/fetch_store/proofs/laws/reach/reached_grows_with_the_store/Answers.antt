use Rattle.fetch_store.proofs.Reaching.{reached_grown}
use Rattle.fetch_store.proofs.laws.reach.reached_grows_with_the_store.Goals as goal

pub returns : goal.returns
returns c = λ before now starts id grows less r. reached_grown before now grows less starts id r
