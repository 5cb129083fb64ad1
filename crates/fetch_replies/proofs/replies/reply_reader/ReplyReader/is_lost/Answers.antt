use Rattle.std.proofs.Common.{ap, sym, ◌∙◌, not, []}
use Rattle.fetch_replies.proofs.RepliesFed.{told_awaits}
use Rattle.fetch_replies.proofs.replies.reply_reader.ReplyReader.is_lost.Goals as goal

pub returns-in-Nothing : goal.returns-in-Nothing
returns-in-Nothing c = rw (← c.self.view_is, c.in-Nothing.is) (ap not (c.is_awaiting.ensures.awaiting ∙ sym (told_awaits c.self.inside.intake [])))
