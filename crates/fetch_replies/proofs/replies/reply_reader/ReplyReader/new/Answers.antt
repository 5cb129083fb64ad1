use Rattle.std.proofs.Common.{refl}
use Rattle.fetch_replies.specs.Awaited.{start_of}
use Rattle.fetch_replies.proofs.Driving.{nothing}
use Rattle.fetch_replies.proofs.replies.reply_reader.ReplyReader.new.Goals as goal

pub invariant_of-result : goal.invariant_of-result
invariant_of-result c = rw (c.new.ensures, nothing c.args.bound (start_of c.args.awaited)) refl
