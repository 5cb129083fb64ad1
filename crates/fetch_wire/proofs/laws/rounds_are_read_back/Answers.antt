use Rattle.fetch_replies.proofs.ReplyLines.{round_tells}
use Rattle.fetch_wire.proofs.laws.rounds_are_read_back.Goals as goal

pub returns : goal.returns
returns c = round_tells
