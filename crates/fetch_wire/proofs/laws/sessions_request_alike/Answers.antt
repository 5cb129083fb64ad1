use Rattle.fetch_wire.proofs.SessionAlike.{requests_alike}
use Rattle.fetch_wire.proofs.laws.sessions_request_alike.Goals as goal

pub returns : goal.returns
returns c = requests_alike
