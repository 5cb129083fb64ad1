use Rattle.fetch_wire.proofs.NamedOnce.{names_once}
use Rattle.fetch_wire.proofs.laws.references_are_named_once.Goals as goal

pub returns : goal.returns
returns c = names_once
