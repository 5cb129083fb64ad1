use Rattle.fetch_wire.proofs.SessionAlike.{same_turn, rests_same, idle_rests}
use Rattle.fetch_wire.proofs.laws.sessions_take_turns_alike.Goals as goal

pub returns : goal.returns
returns c = λ a b h. (same_turn a b h, λ idle. rests_same a b h (idle_rests a idle))
