use Rattle.fetch_wire.proofs.session.conversation.Session.poll.Goals as goal

pub returns-then-is_awaiting-clause-receives : goal.returns-then-is_awaiting-clause-receives
returns-then-is_awaiting-clause-receives c = λ e. rw (← c.self.view_is) (_, c.is_awaiting.ensures.short c.if-is_awaiting.true)
