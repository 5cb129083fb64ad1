use Rattle.std.proofs.Common.{refl}
use Rattle.std.proofs.lemmas.Result.{err_from_is_err_and}
use Rattle.fetch_conversation.specs.Conversing.{arguments_told}
use Rattle.fetch_conversation.specs.Exchange.{FetchArgumentsValue, haves_told}
use Rattle.fetch_conversation.specs.ListStage.{shown}
use Rattle.fetch_conversation.specs.declared.listing.Listed.{Listed}
use Rattle.fetch_conversation.specs.Errors.{fetch_of_stop}
use Rattle.fetch_conversation.proofs.Asked.{breaks_asked, long_asked}
use Rattle.fetch_conversation.proofs.Exchanged.{asked_drivable, exchange_long, exchange_stopped, exchange_found, ready_again, bound_again}
use Rattle.fetch_conversation.proofs.Heeded.{fetch_asks, stop_fetched}
use Rattle.fetch_conversation.proofs.Blame.{interrupt_still, interrupt_as}
use Rattle.fetch_conversation.proofs.Keeping.{finished_reply}
use Rattle.fetch_conversation.proofs.exchange.exchange.Goals as goal

pub returns-in_err-ask-clause-held : goal.returns-in_err-ask-clause-held
returns-in_err-ask-clause-held g c =
    let t : FetchArgumentsValue = arguments_told (shown c.args.listed.now) c.args.arguments.now in
    let p = err_from_is_err_and c.from_residual.result c.from_residual.ensures.1 in
    rw (p.1, p.2) (exchange_long g.P.Peer.answers c.args.listed.now.session.intake.bound (g.P.Peer.told c.args.peer.now) _ _ t (haves_told c.args.shared.now c.args.round.now.haves) c.args.round.now.done c.in_err-ask.field-0.0 c.in_err-ask.ensures.too_long)

pub drive-requires-clause-drivable : goal.drive-requires-clause-drivable
drive-requires-clause-drivable g c =
    let t : FetchArgumentsValue = arguments_told (shown c.args.listed.now) c.args.arguments.now in
    asked_drivable t (haves_told c.args.shared.now c.args.round.now.haves) c.args.round.now.done c.args.listed.now.session c.ask.new.listed.session c.requires.ready.turn c.requires.ready.unrefused c.in_ok-ask.ensures.asked

pub returns-in_err-drive-clause-held : goal.returns-in_err-drive-clause-held
returns-in_err-drive-clause-held g c =
    let t : FetchArgumentsValue = arguments_told (shown c.args.listed.now) c.args.arguments.now in
    let p = err_from_is_err_and c.from_residual-in_err-drive.result c.from_residual-in_err-drive.ensures.1 in
    rw (p.1, p.2) (exchange_stopped g.P.Peer.answers c.args.listed.now.session.intake.bound (g.P.Peer.told c.args.peer.now) (g.P.Peer.told c.drive.new.peer) _ t (haves_told c.args.shared.now c.args.round.now.haves) c.args.round.now.done c.args.listed.now.session c.ask.new.listed.session c.in_err-drive.field-0.0 c.requires.ready.turn refl c.in_ok-ask.ensures.asked c.in_err-drive.ensures.driven)

pub returns-clause-held : goal.returns-clause-held
returns-clause-held g c =
    let t : FetchArgumentsValue = arguments_told (shown c.args.listed.now) c.args.arguments.now in
    exchange_found g.P.Peer.answers c.args.listed.now.session.intake.bound (g.P.Peer.told c.args.peer.now) (g.P.Peer.told c.drive.new.peer) t (haves_told c.args.shared.now c.args.round.now.haves) c.args.round.now.done c.args.listed.now.session c.ask.new.listed.session c.drive.new.session c.requires.ready.turn refl c.in_ok-ask.ensures.asked c.in_ok-drive.ensures.driven

pub returns-clause-replied : goal.returns-clause-replied
returns-clause-replied g c =
    let t : FetchArgumentsValue = arguments_told (shown c.args.listed.now) c.args.arguments.now in
    finished_reply g.P.Peer.answers (g.P.Peer.told c.args.peer.now) (g.P.Peer.told c.drive.new.peer) t (haves_told c.args.shared.now c.args.round.now.haves) c.args.round.now.done c.args.listed.now.session c.ask.new.listed.session c.drive.new.session c.requires.ready.turn c.in_ok-ask.ensures.asked c.in_ok-drive.ensures.driven

pub returns-clause-again : goal.returns-clause-again
returns-clause-again g c =
    let t : FetchArgumentsValue = arguments_told (shown c.args.listed.now) c.args.arguments.now in
    let haves = haves_told c.args.shared.now c.args.round.now.haves in
    let after : Listed = record { session = c.drive.new.session; ref_map = c.ask.new.listed.ref_map; handshake = c.ask.new.listed.handshake } in
    record {
      ready = ready_again g.P.Peer.answers (g.P.Peer.told c.args.peer.now) (g.P.Peer.told c.drive.new.peer) t haves c.args.round.now.done c.args.listed.now after c.ask.new.listed.session c.requires.ready c.ask.ensures.kept c.in_ok-ask.ensures.asked c.in_ok-drive.ensures.driven;
      bound = bound_again g.P.Peer.answers (g.P.Peer.told c.args.peer.now) (g.P.Peer.told c.drive.new.peer) t haves c.args.round.now.done c.args.listed.now.session c.drive.new.session c.ask.new.listed.session c.requires.ready.turn c.in_ok-ask.ensures.asked c.in_ok-drive.ensures.driven;
    }

pub returns-in_err-ask-clause-interrupt : goal.returns-in_err-ask-clause-interrupt
returns-in_err-ask-clause-interrupt g c =
    let p = err_from_is_err_and c.from_residual.result c.from_residual.ensures.1 in
    rw (p.1, p.2) (interrupt_still _ _ _ _ (fetch_asks (Unit {0}) c.in_err-ask.field-0.0))

pub returns-in_err-ask-clause-asked : goal.returns-in_err-ask-clause-asked
returns-in_err-ask-clause-asked g c =
    let p = err_from_is_err_and c.from_residual.result c.from_residual.ensures.1 in
    rw (p.1, p.2) (long_asked _ c.in_err-ask.field-0.0 c.in_err-ask.ensures.too_long)

pub returns-in_err-drive-clause-asked : goal.returns-in_err-drive-clause-asked
returns-in_err-drive-clause-asked g c =
    let t : FetchArgumentsValue = arguments_told (shown c.args.listed.now) c.args.arguments.now in
    let haves = haves_told c.args.shared.now c.args.round.now.haves in
    let p = err_from_is_err_and c.from_residual-in_err-drive.result c.from_residual-in_err-drive.ensures.1 in
    rw (p.1, p.2) (breaks_asked g.P.Peer.answers c.args.listed.now.session.intake.bound (g.P.Peer.told c.args.peer.now) (g.P.Peer.told c.drive.new.peer) _ t haves c.args.round.now.done (fetch_of_stop c.in_err-drive.field-0.0)
    (exchange_stopped g.P.Peer.answers c.args.listed.now.session.intake.bound (g.P.Peer.told c.args.peer.now) (g.P.Peer.told c.drive.new.peer) c.args.listed.now.session.intake.pending t haves c.args.round.now.done c.args.listed.now.session c.ask.new.listed.session c.in_err-drive.field-0.0 c.requires.ready.turn refl c.in_ok-ask.ensures.asked c.in_err-drive.ensures.driven).held)

pub returns-in_err-drive-clause-interrupt : goal.returns-in_err-drive-clause-interrupt
returns-in_err-drive-clause-interrupt g c =
    let p = err_from_is_err_and c.from_residual-in_err-drive.result c.from_residual-in_err-drive.ensures.1 in
    rw (p.1, p.2) (interrupt_as _ _ _ _ _ _ _ _ (stop_fetched (Unit {0}) (Unit {0}) c.in_err-drive.field-0.0) c.in_err-drive.ensures.interrupt)
