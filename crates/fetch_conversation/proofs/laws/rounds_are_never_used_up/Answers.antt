use Rattle.fetch_conversation.proofs.Ending.{never_used_up}
use Rattle.fetch_conversation.proofs.laws.rounds_are_never_used_up.Goals as goal

pub returns-clause-sent : goal.returns-clause-sent
returns-clause-sent c = λ bound more t g algorithm view stream. (never_used_up bound t g algorithm view more).sent stream

pub returns-clause-answered : goal.returns-clause-answered
returns-clause-answered c = λ bound more t g algorithm view stream. (never_used_up bound t g algorithm view more).answered stream
