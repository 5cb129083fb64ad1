use Rattle.fetch_wire.proofs.SessionAlike.{stays_alike}
use Rattle.fetch_wire.proofs.laws.sessions_stay_alike.Goals as goal

pub returns : goal.returns
returns c = λ a b piece h. stays_alike a b piece h
