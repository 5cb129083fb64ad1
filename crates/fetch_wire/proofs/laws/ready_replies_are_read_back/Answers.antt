use Rattle.fetch_replies.proofs.ReplyLines.{ready_tells}
use Rattle.fetch_wire.proofs.laws.ready_replies_are_read_back.Goals as goal

pub returns : goal.returns
returns c = ready_tells
