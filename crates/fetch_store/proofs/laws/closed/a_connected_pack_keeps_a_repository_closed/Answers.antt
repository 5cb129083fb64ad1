use Rattle.fetch_store.proofs.Whole.{whole_closed, none_connects, none_held}
use Rattle.fetch_store.proofs.laws.closed.a_connected_pack_keeps_a_repository_closed.Goals as goal

pub returns-clause-closed : goal.returns-clause-closed
returns-clause-closed c now wants pack closed none = whole_closed now pack closed (none_connects now wants pack none)

pub returns-clause-wants : goal.returns-clause-wants
returns-clause-wants c now wants pack none = none_held now wants pack none
