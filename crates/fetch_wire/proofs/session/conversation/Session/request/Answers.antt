use Rattle.std.proofs.Common.{ap, ◌∙◌}
use Rattle.fetch_wire.specs.contracts.session.conversation.Session.{the_view}
use Rattle.fetch_lines.specs.Written.{lines_text}
use Rattle.fetch_wire.proofs.Conversing.{requested_is}
use Rattle.fetch_wire.proofs.session.conversation.Session.request.Goals as goal

pub returns-clause-requested : goal.returns-clause-requested
returns-clause-requested c =
    let self = c.self.inside in
    let text = c.in_ok-text.ensures.text ∙ ap lines_text (c.deref.ensures.value ∙ c.in_ok-lines.ensures) in
    let asked = rw (← c.self.view_is) at c.in_ok-asked.ensures in
    let reads = rw (← c.self.view_is) at c.in_ok-intake.ensures.found in
    rw (← c.self.view_is, c.store.ensures)
    (requested_is (the_view self) c.args.request.now c.args.read_pack c.in_ok-text.text.items c.in_ok-asked.asked c.in_ok-intake.intake c.in_ok-intake.found text asked reads)

pub returns-clause-again : goal.returns-clause-again
returns-clause-again c = rw c.in_ok-answer.ensures.refusal tt
