use Rattle.std.proofs.Common.{◌∙◌}
use Rattle.fetch_replies.proofs.RepliesFed.{place_is}
use Rattle.fetch_replies.proofs.replies.reply_reader.ReplyReader.place.Goals as goal

pub returns : goal.returns
returns c = λ place is. c.place.ensures.place ∙ place_is c.self.inside.intake c.self.inside.found place c.self.invariant c.place.ensures.short (rw (← c.self.view_is) at is)
