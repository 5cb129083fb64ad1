use Rattle.fetch_wire.proofs.SessionAlike.{ends_alike}
use Rattle.fetch_wire.proofs.laws.sessions_end_alike.Goals as goal

pub returns : goal.returns
returns c = ends_alike
