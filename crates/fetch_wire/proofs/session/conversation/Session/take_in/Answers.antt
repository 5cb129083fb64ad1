use Rattle.fetch_wire.specs.contracts.session.conversation.Session.{the_view}
use Rattle.fetch_wire.proofs.Conversing.{taken_is}
use Rattle.fetch_wire.proofs.session.conversation.Session.take_in.Goals as goal

pub returns-clause-fed : goal.returns-clause-fed
returns-clause-fed c =
    let well = rw (← c.self.view_is) at c.requires in
    rw (← c.self.view_is) (taken_is (the_view c.self.inside) c.args.piece.now c.feed.new.self c.in_ok-found.found c.take.new.self well c.in_ok-found.ensures.read c.in_ok-take.ensures.taken)
