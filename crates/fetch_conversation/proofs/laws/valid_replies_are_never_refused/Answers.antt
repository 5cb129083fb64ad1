use Rattle.fetch_conversation.proofs.Valid.{never_refused}
use Rattle.fetch_conversation.proofs.laws.valid_replies_are_never_refused.Goals as goal

pub returns : goal.returns
returns g c = never_refused
