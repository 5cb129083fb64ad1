use Rattle.std.proofs.Common.{◌≡◌, true, sym, subst}
use Rattle.fetch_replies.specs.declared.replies.reply_buffer.FoundReply.{FoundReply}
use Rattle.fetch_replies.specs.ReplyReadings.{is_kept}
use Rattle.fetch_replies.proofs.RepliesFed.{refusal_is}
use Rattle.fetch_replies.proofs.replies.reply_reader.ReplyReader.refusal.Goals as goal

pub returns-in-Refused : goal.returns-in-Refused
returns-in-Refused c = rw (← c.self.view_is, c.in-Refused.is) (sym (refusal_is c.self.inside.intake c.in-Refused.fault (subst (λ (f : FoundReply). is_kept c.self.inside.intake f ≡ true) c.in-Refused.is c.self.invariant)))
