use Rattle.fetch_wire.proofs.Agents.{named_once}
use Rattle.fetch_wire.proofs.laws.agents_are_named_once.Goals as goal

pub returns : goal.returns
returns c = named_once
