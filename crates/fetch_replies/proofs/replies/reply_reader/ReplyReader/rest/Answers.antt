use Rattle.std.proofs.Common.{◌∙◌}
use Rattle.fetch_replies.proofs.RepliesFed.{rest_is}
use Rattle.fetch_replies.proofs.replies.reply_reader.ReplyReader.rest.Goals as goal

pub returns : goal.returns
returns c = λ told rest is. c.pending.ensures ∙ rest_is c.self.inside.intake c.self.inside.found told rest c.self.invariant (rw (← c.self.view_is) at is)
