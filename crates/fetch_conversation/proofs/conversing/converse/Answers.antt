use Rattle.std.proofs.Common.{◌≡◌, false, List, Option, Some, Ok, Err, sym, subst, ◌∙◌, arith}
use Rattle.std.proofs.lemmas.Result.{err_from_is_err_and}
use Rattle.fetch_lines.specs.declared.requests.records.FetchReply.{FetchReply}
use Rattle.fetch_negotiate.specs.declared.algorithm.Round.{Round}
use Rattle.fetch_conversation.specs.Conversing.{arguments_told}
use Rattle.fetch_conversation.specs.ConverseStage.{received}
use Rattle.fetch_conversation.specs.Errors.{is_free_receiving, is_stopped}
use Rattle.fetch_conversation.specs.Exchange.{FetchArgumentsValue}
use Rattle.fetch_conversation.specs.ListStage.{ListedValue, shown, is_nil}
use Rattle.fetch_conversation.specs.declared.conversing.Received.{Received}
use Rattle.fetch_conversation.specs.declared.fetch.Error.{Error}
use Rattle.fetch_conversation.proofs.Blame.{interrupt_still}
use Rattle.fetch_conversation.proofs.Fetches.{FindsIn, holds_refusal, holds_nothing, holds_broken, holds_found}
use Rattle.fetch_conversation.proofs.Heeded.{no_question}
use Rattle.fetch_conversation.proofs.Nil.{nil_by, nil_is}
use Rattle.fetch_conversation.proofs.conversing.converse.Goals as goal

-- ---- what the rounds bring

finds_refusal : (t : FetchArgumentsValue) (rounds : List Round) (kept : Option FetchReply) (r : FetchReply) (e : Error) → kept ≡ Some r → is_stopped e ≡ false → (is_free_receiving e ≡ false → received t (record { rounds = rounds; reply = r }) ≡ Err e) → FindsIn t rounds kept (Err e)
finds_refusal t rounds kept r e is going h = rw is (going, h)

finds_received : (t : FetchArgumentsValue) (rounds : List Round) (kept : Option FetchReply) (r : FetchReply) (x : Received) → kept ≡ Some r → received t (record { rounds = rounds; reply = r }) ≡ Ok (Some x) → FindsIn t rounds kept (Ok (Some x))
finds_received t rounds kept r x is h = rw is h

pub returns-in_err-refuse-clause-held : goal.returns-in_err-refuse-clause-held
returns-in_err-refuse-clause-held g c =
    let t : FetchArgumentsValue = arguments_told (shown c.args.listed.now) c.args.arguments.now in
    let h = g.O.Objects.graph c.args.objects.now in
    let p = err_from_is_err_and c.from_residual.result c.from_residual.ensures.1 in
    rw (p.1, p.2) (holds_refusal g.P.Peer.answers c.args.listed.now.session.intake.bound (g.P.Peer.told c.args.peer.now) _ _ h t c.in_err-refuse.field-0.0 c.in_err-refuse.ensures.own.1 (λ isnt. c.in_err-refuse.ensures.refused isnt c.args.listed.now.session.intake.bound h))

pub returns-then-is_empty-clause-held : goal.returns-then-is_empty-clause-held
returns-then-is_empty-clause-held g c =
    let t : FetchArgumentsValue = arguments_told (shown c.args.listed.now) c.args.arguments.now in
    holds_nothing g.P.Peer.answers c.args.listed.now.session.intake.bound (g.P.Peer.told c.args.peer.now) c.args.listed.now.session.intake.pending (g.O.Objects.graph c.args.objects.now) t c.in_ok-refuse.ensures.clear
    (nil_is c.args.arguments.now.view.now.wants c.is_empty.result c.is_empty.ensures c.if-is_empty.true)

pub returns-in_err-negotiate-clause-held : goal.returns-in_err-negotiate-clause-held
returns-in_err-negotiate-clause-held g c =
    let t : FetchArgumentsValue = arguments_told (shown c.args.listed.now) c.args.arguments.now in
    let some : is_nil c.args.arguments.now.view.now.wants ≡ false = sym (nil_by c.args.arguments.now.view.now.wants c.is_empty.result c.is_empty.ensures) ∙ c.if-is_empty.false in
    let p = err_from_is_err_and c.from_residual-in_err-negotiate.result c.from_residual-in_err-negotiate.ensures.1 in
    rw (p.1, p.2) (holds_broken g.P.Peer.answers c.args.listed.now.session.intake.bound (g.P.Peer.told c.args.peer.now) (g.P.Peer.told c.negotiate.new.peer) _ _ (g.O.Objects.graph c.args.objects.now) t c.in_err-negotiate.field-0.0 c.in_ok-refuse.ensures.clear some
    c.in_err-negotiate.ensures.held.held)

pub returns-in_err-received-clause-held : goal.returns-in_err-received-clause-held
returns-in_err-received-clause-held g c =
    let t : FetchArgumentsValue = arguments_told (shown c.args.listed.now) c.args.arguments.now in
    let some : is_nil c.args.arguments.now.view.now.wants ≡ false = sym (nil_by c.args.arguments.now.view.now.wants c.is_empty.result c.is_empty.ensures) ∙ c.if-is_empty.false in
    let n = c.in_ok-negotiate.negotiate in
    let e : Error = c.in_err-received.field-0.0 in
    let p = err_from_is_err_and c.from_residual-in_err-received.result c.from_residual-in_err-received.ensures.1 in
    let told : c.negotiate.new.listed.session.reply ≡ Some c.in-Some.reply = grind arith in
    let refused = subst (λ (l : ListedValue). is_free_receiving e ≡ false → received (arguments_told l c.args.arguments.now) (record { rounds = n.rounds; reply = c.in-Some.reply }) ≡ Err e) c.in_ok-negotiate.ensures.kept c.in_err-received.ensures.refused in
    rw (p.1, p.2, c.take_reply.ensures.left) (holds_found g.P.Peer.answers c.args.listed.now.session.intake.bound (g.P.Peer.told c.args.peer.now) (g.P.Peer.told c.negotiate.new.peer) _ _ (g.O.Objects.graph c.args.objects.now) t n c.negotiate.new.listed.session.reply (Err e) c.in_ok-refuse.ensures.clear some
    c.in_ok-negotiate.ensures.held.held (finds_refusal t n.rounds c.negotiate.new.listed.session.reply c.in-Some.reply e told c.in_err-received.ensures.own.1 refused))

pub returns-clause-held : goal.returns-clause-held
returns-clause-held g c =
    let t : FetchArgumentsValue = arguments_told (shown c.args.listed.now) c.args.arguments.now in
    let some : is_nil c.args.arguments.now.view.now.wants ≡ false = sym (nil_by c.args.arguments.now.view.now.wants c.is_empty.result c.is_empty.ensures) ∙ c.if-is_empty.false in
    let n = c.in_ok-negotiate.negotiate in
    let x : Received = c.in_ok-received.received in
    let told : c.negotiate.new.listed.session.reply ≡ Some c.in-Some.reply = grind arith in
    let received_so = subst (λ (l : ListedValue). received (arguments_told l c.args.arguments.now) (record { rounds = n.rounds; reply = c.in-Some.reply }) ≡ Ok (Some x)) c.in_ok-negotiate.ensures.kept c.in_ok-received.ensures.received in
    rw c.take_reply.ensures.left (holds_found g.P.Peer.answers c.args.listed.now.session.intake.bound (g.P.Peer.told c.args.peer.now) (g.P.Peer.told c.negotiate.new.peer) _ _ (g.O.Objects.graph c.args.objects.now) t n c.negotiate.new.listed.session.reply (Ok (Some x)) c.in_ok-refuse.ensures.clear some
    c.in_ok-negotiate.ensures.held.held (finds_received t n.rounds c.negotiate.new.listed.session.reply c.in-Some.reply x told received_so))

pub returns-in_err-refuse-clause-interrupt : goal.returns-in_err-refuse-clause-interrupt
returns-in_err-refuse-clause-interrupt g c =
    let p = err_from_is_err_and c.from_residual.result c.from_residual.ensures.1 in
    rw (p.1, p.2) (interrupt_still (g.I.Interrupt.yes c.args.interrupt.now) (g.I.Interrupt.will_stop c.args.interrupt.now) (g.P.Peer.told c.args.peer.now) _ (no_question (Option Received) is_stopped c.in_err-refuse.field-0.0 c.in_err-refuse.ensures.own.1))
