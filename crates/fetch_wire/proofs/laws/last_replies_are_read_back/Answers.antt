use Rattle.fetch_replies.proofs.ReplyLines.{last_tells}
use Rattle.fetch_wire.proofs.laws.last_replies_are_read_back.Goals as goal

pub returns : goal.returns
returns c = last_tells
