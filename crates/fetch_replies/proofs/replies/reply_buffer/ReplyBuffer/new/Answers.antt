use Rattle.std.proofs.Common.{refl}
use Rattle.fetch_replies.proofs.Driving.{nothing}
use Rattle.fetch_replies.proofs.replies.reply_buffer.ReplyBuffer.new.Goals as goal

pub invariant_of-result : goal.invariant_of-result
invariant_of-result c = rw (c.new.ensures, nothing c.args.bound c.start.result) refl
