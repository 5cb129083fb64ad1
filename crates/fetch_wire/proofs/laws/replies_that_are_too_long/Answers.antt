use Rattle.fetch_replies.specs.Awaited.{step_of, start_of}
use Rattle.fetch_replies.proofs.ReadBack.{is_too_long, too_long}
use Rattle.fetch_wire.proofs.laws.replies_that_are_too_long.Goals as goal

pub returns : goal.returns
returns c = λ bound awaited bytes. (is_too_long step_of bound (start_of awaited) bytes, too_long step_of bound (start_of awaited) bytes)
