use Rattle.fetch_replies.proofs.Moving.{text_tells}
use Rattle.fetch_wire.proofs.laws.replies_are_read_as_written.Goals as goal

pub returns : goal.returns
returns c = text_tells
