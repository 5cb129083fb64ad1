use Rattle.std.proofs.Common.{◌≡◌, ◌<◌, false, [], length, take, inl, inr, refl, subst, arith}
use Rattle.std.proofs.lemmas.Grind.{common_steps}
use Rattle.std.proofs.lemmas.Result.{err_from_is_err_and}
use Rattle.fetch_lines.specs.Talks.{Talks, Talks-none}
use Rattle.fetch_conversation.proofs.Driven.{takes_end, takes_refusal, takes_yes, end_troubled, fed_troubled}
use Rattle.fetch_conversation.proofs.Heeded.{never_by}
use Rattle.fetch_conversation.proofs.Blame.{interrupt_once}
use Rattle.fetch_conversation.proofs.drive.receive.Goals as goal

pub returns-in_err-end-clause-taken : goal.returns-in_err-end-clause-taken
returns-in_err-end-clause-taken g c =
    let p = err_from_is_err_and c.from_residual.result c.from_residual.ensures.1 in
    let none : c.in-Ok.count ≡ 0 = (let e = c.if-count-eq0.true in grind (arith, common_steps)) in
    let room : 0 < length c.receive.new.into = grind (arith, common_steps) in
    let talk = subst (λ n. Talks false (g.P.Peer.told c.args.peer.now) (g.P.Peer.told c.receive.new.self) [] (take n c.receive.new.into)) none c.in-Ok.ensures.talk.0 in
    rw (p.1, p.2) ([], talk, inr (refl, takes_end (g.P.Peer.told c.receive.new.self) c.args.session.now _ c.requires.turn c.requires.awaits (c.in-Ok.ensures.talk.1 none room) c.in_err-end.ensures.answers))

pub returns-in_err-feed-clause-taken : goal.returns-in_err-feed-clause-taken
returns-in_err-feed-clause-taken g c =
    let p = err_from_is_err_and c.from_residual-in_err-feed.result c.from_residual-in_err-feed.ensures.1 in
    let piece = take c.in-Ok.count c.receive.new.into in
    rw (p.1, p.2) (piece, c.in-Ok.ensures.talk.0, inl (takes_refusal (g.P.Peer.told c.receive.new.self) c.args.session.now piece _ c.requires.unrefused c.in_err-feed.ensures.answers))

pub returns-in_err-end-clause-memory : goal.returns-in_err-end-clause-memory
returns-in_err-end-clause-memory g c =
    let p = err_from_is_err_and c.from_residual.result c.from_residual.ensures.1 in
    rw (p.1, p.2) (λ _. end_troubled c.args.session.now _ c.requires.turn c.requires.awaits c.in_err-end.ensures.ended)

pub returns-in_err-feed-clause-memory : goal.returns-in_err-feed-clause-memory
returns-in_err-feed-clause-memory g c =
    let p = err_from_is_err_and c.from_residual-in_err-feed.result c.from_residual-in_err-feed.ensures.1 in
    rw (p.1, p.2) (λ _. fed_troubled c.args.session.now c.feed.new.self _ c.requires.turn c.in_err-feed.ensures.stands)

pub returns-then-asked-clause-taken : goal.returns-then-asked-clause-taken
returns-then-asked-clause-taken g c = ([], Talks-none false (g.P.Peer.told c.args.peer.now), inr (refl, takes_yes (g.P.Peer.told c.args.peer.now) c.args.session.now c.requires.turn c.requires.awaits))

pub returns-in_default-clause-interrupt : goal.returns-in_default-clause-interrupt
returns-in_default-clause-interrupt g c =
    interrupt_once (g.I.Interrupt.yes c.args.interrupt.now) (g.I.Interrupt.yes c.asked.new.self) (g.I.Interrupt.will_stop c.args.interrupt.now) (g.I.Interrupt.will_stop c.asked.new.self) _ _ c.asked.ensures.counts (c.asked.ensures.left c.if-asked.false) (never_by (g.I.Interrupt.will_stop c.args.interrupt.now) c.asked.result c.if-asked.false c.asked.ensures.now) c.asked.ensures.later c.receive.ensures.receives

pub returns-in_err-end-clause-interrupt : goal.returns-in_err-end-clause-interrupt
returns-in_err-end-clause-interrupt g c =
    let p = err_from_is_err_and c.from_residual.result c.from_residual.ensures.1 in
    rw (p.1, p.2) (interrupt_once (g.I.Interrupt.yes c.args.interrupt.now) (g.I.Interrupt.yes c.asked.new.self) (g.I.Interrupt.will_stop c.args.interrupt.now) (g.I.Interrupt.will_stop c.asked.new.self) _ _ c.asked.ensures.counts (c.asked.ensures.left c.if-asked.false) (never_by (g.I.Interrupt.will_stop c.args.interrupt.now) c.asked.result c.if-asked.false c.asked.ensures.now) c.asked.ensures.later c.receive.ensures.receives)

pub returns-in_err-feed-clause-interrupt : goal.returns-in_err-feed-clause-interrupt
returns-in_err-feed-clause-interrupt g c =
    let p = err_from_is_err_and c.from_residual-in_err-feed.result c.from_residual-in_err-feed.ensures.1 in
    rw (p.1, p.2) (interrupt_once (g.I.Interrupt.yes c.args.interrupt.now) (g.I.Interrupt.yes c.asked.new.self) (g.I.Interrupt.will_stop c.args.interrupt.now) (g.I.Interrupt.will_stop c.asked.new.self) _ _ c.asked.ensures.counts (c.asked.ensures.left c.if-asked.false) (never_by (g.I.Interrupt.will_stop c.args.interrupt.now) c.asked.result c.if-asked.false c.asked.ensures.now) c.asked.ensures.later c.receive.ensures.receives)

pub returns-clause-interrupt : goal.returns-clause-interrupt
returns-clause-interrupt g c =
    interrupt_once (g.I.Interrupt.yes c.args.interrupt.now) (g.I.Interrupt.yes c.asked.new.self) (g.I.Interrupt.will_stop c.args.interrupt.now) (g.I.Interrupt.will_stop c.asked.new.self) _ _ c.asked.ensures.counts (c.asked.ensures.left c.if-asked.false) (never_by (g.I.Interrupt.will_stop c.args.interrupt.now) c.asked.result c.if-asked.false c.asked.ensures.now) c.asked.ensures.later c.receive.ensures.receives
