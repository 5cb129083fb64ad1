use Rattle.std.proofs.Common.{◌≡◌, Option, Some, Ok, refl, ap, subst, ◌∙◌, arith}
use Rattle.std.proofs.lemmas.Result.{err_from_is_err_and}
use Rattle.fetch_lines.specs.declared.requests.records.FetchReply.{FetchReply}
use Rattle.fetch_negotiate.specs.Any.{algorithm_of}
use Rattle.fetch_negotiate.specs.declared.algorithm.Round.{Round}
use Rattle.fetch_conversation.specs.Conversing.{rounds_state_of, found_in, arguments_told}
use Rattle.fetch_conversation.specs.Exchange.{FetchArgumentsValue}
use Rattle.fetch_conversation.specs.ListStage.{shown, pending_of}
use Rattle.fetch_conversation.specs.Rounds.{RoundsStateValue}
use Rattle.fetch_conversation.specs.declared.fetch.Error.TheVariants as errors
use Rattle.fetch_conversation.proofs.Held.{IsNext, Exchanged, unanswered, untold, unwindowed}
use Rattle.fetch_conversation.proofs.rounds.hold_round.Goals as goal

pub returns-in_err-round-clause-held : goal.returns-in_err-round-clause-held
returns-in_err-round-clause-held g c =
    let t : FetchArgumentsValue = arguments_told (shown c.args.listed.now) c.args.arguments.now in
    let p = err_from_is_err_and c.from_residual.result c.from_residual.ensures.1 in
    rw (p.1, p.2) (λ more. unwindowed c.args.listed.now.session.intake.bound t (g.O.Objects.graph c.args.objects.now) (algorithm_of c.args.state.now.negotiator) g.P.Peer.answers (g.P.Peer.told c.args.peer.now) (pending_of c.args.listed.now) more (rounds_state_of c.args.state.now) errors.NoMemory refl refl)

pub returns-in_err-exchange-clause-held : goal.returns-in_err-exchange-clause-held
returns-in_err-exchange-clause-held g c =
    let bound = c.args.listed.now.session.intake.bound in
    let t : FetchArgumentsValue = arguments_told (shown c.args.listed.now) c.args.arguments.now in
    let graph = g.O.Objects.graph c.args.objects.now in
    let algorithm = algorithm_of c.args.state.now.negotiator in
    let before : RoundsStateValue = rounds_state_of c.args.state.now in
    let d : RoundsStateValue = rounds_state_of c.next.new.self in
    let round : Round = c.in_ok-round.round in
    let e = c.in_ok-round.ensures in
    let next : IsNext bound t graph algorithm before d round c.as_slice.result.now = record { haves = ap (λ (r : Round). r.haves) e.round; done = ap (λ (r : Round). r.done) e.round; state = e.state; told = c.as_slice.ensures.value ∙ ap (λ (x : RoundsStateValue). x.shared) e.state } in
    let p = err_from_is_err_and c.from_residual-in_err-exchange.result c.from_residual-in_err-exchange.ensures.1 in
    rw (p.1, p.2) (λ more. unanswered bound t graph algorithm g.P.Peer.answers (g.P.Peer.told c.args.peer.now) (g.P.Peer.told c.exchange.new.peer) (pending_of c.args.listed.now) (pending_of c.exchange.new.listed) more before d round c.as_slice.result.now c.in_err-exchange.field-0.0 next c.in_err-exchange.ensures.held.held)

pub returns-in_err-take_in-in-Some-clause-held : goal.returns-in_err-take_in-in-Some-clause-held
returns-in_err-take_in-in-Some-clause-held g c =
    let bound = c.args.listed.now.session.intake.bound in
    let t : FetchArgumentsValue = arguments_told (shown c.args.listed.now) c.args.arguments.now in
    let graph = g.O.Objects.graph c.args.objects.now in
    let algorithm = algorithm_of c.args.state.now.negotiator in
    let before : RoundsStateValue = rounds_state_of c.args.state.now in
    let d : RoundsStateValue = rounds_state_of c.next.new.self in
    let round : Round = c.in_ok-round.round in
    let shared = c.as_slice.result.now in
    let e = c.in_ok-round.ensures in
    let next : IsNext bound t graph algorithm before d round shared = record { haves = ap (λ (r : Round). r.haves) e.round; done = ap (λ (r : Round). r.done) e.round; state = e.state; told = c.as_slice.ensures.value ∙ ap (λ (x : RoundsStateValue). x.shared) e.state } in
    let told : c.exchange.new.listed.session.reply ≡ Some c.in-Some.reply.now = grind arith in
    let held = subst (λ (o : Option FetchReply). Exchanged bound t graph algorithm g.P.Peer.answers (g.P.Peer.told c.args.peer.now) (g.P.Peer.told c.exchange.new.peer) (pending_of c.args.listed.now) (pending_of c.exchange.new.listed) shared round (found_in (λ (r : FetchReply). Ok r) o)) told c.in_ok-exchange.ensures.held.held in
    let p = err_from_is_err_and c.from_residual-in_err-take_in-in-Some.result c.from_residual-in_err-take_in-in-Some.ensures.1 in
    rw (p.1, p.2) (λ more. untold bound t graph algorithm g.P.Peer.answers (g.P.Peer.told c.args.peer.now) (g.P.Peer.told c.exchange.new.peer) (pending_of c.args.listed.now) (pending_of c.exchange.new.listed) more before d round shared c.in-Some.reply.now errors.NoMemory next held refl refl)
