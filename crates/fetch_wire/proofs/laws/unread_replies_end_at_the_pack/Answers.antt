use Rattle.fetch_replies.proofs.ReplyLines.{unread_tells}
use Rattle.fetch_wire.proofs.laws.unread_replies_end_at_the_pack.Goals as goal

pub returns : goal.returns
returns c = unread_tells
