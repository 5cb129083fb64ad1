use Rattle.std.proofs.Common.{inl, inr, ◌∙◌}
use Rattle.fetch_wire.proofs.Conversing.{unread, lost_kept, lost_alike}
use Rattle.fetch_wire.proofs.session.conversation.Session.feed.Goals as goal

pub returns-in_err-answer-clause-fed : goal.returns-in_err-answer-clause-fed
returns-in_err-answer-clause-fed c = λ other. unread c.args.self.now c.args.piece.now (λ none. let told = c.in_err-answer.ensures.ok none in cc)

pub returns-in_err-answer-clause-lost : goal.returns-in_err-answer-clause-lost
returns-in_err-answer-clause-lost c = λ none _. absurd (let told = c.in_err-answer.ensures.ok none in cc)
