use Rattle.std.proofs.Common.{refl, sym}
use Rattle.std.proofs.lemmas.Result.{err_from_is_err_and}
use Rattle.fetch_conversation.proofs.Turns.{starts, sent_on, unsent, received_on, unreceived, rests, refused_end, received_less}
use Rattle.fetch_conversation.proofs.drive.take_turns.Goals as goal

pub turns-init : goal.turns-init
turns-init g c = starts _ _ _ _ _ _ c.requires.drivable

pub returns-in_err-send-in-Send : goal.returns-in_err-send-in-Send
returns-in_err-send-in-Send g c =
    let p = err_from_is_err_and c.from_residual.result c.from_residual.ensures.1 in
    let e = c.in_err-send-in-Send.ensures in
    rw (p.1, p.2) (unsent _ _ _ _ _ _ _ _ _ _ _ _ _ _ _ c.turns.invariant (sym c.in-Send.ensures.turn) e.unsent e.talk e.receives e.cause e.peer)

pub returns-in_err-receive-in-Receive : goal.returns-in_err-receive-in-Receive
returns-in_err-receive-in-Receive g c =
    let p = err_from_is_err_and c.from_residual-in_err-receive-in-Receive.result c.from_residual-in_err-receive-in-Receive.ensures.1 in
    let e = c.in_err-receive-in-Receive.ensures in
    rw (p.1, p.2) (unreceived _ _ _ _ _ _ _ _ _ _ _ _ _ _ _ _ _ c.turns.invariant (sym c.in-Receive.ensures.turn) (c.in-Receive.ensures.receives refl) e.taken e.memory e.receives e.peer e.interrupt)

pub returns-in-Idle : goal.returns-in-Idle
returns-in-Idle g c = rests _ _ _ _ _ _ _ _ _ _ _ _ c.turns.invariant (sym c.in-Idle.ensures.turn)

pub returns-in_err-end-in-Failed : goal.returns-in_err-end-in-Failed
returns-in_err-end-in-Failed g c =
    let p = err_from_is_err_and c.from_residual-in_err-end-in-Failed.result c.from_residual-in_err-end-in-Failed.ensures.1 in
    rw (p.1, p.2) (refused_end _ _ _ _ _ _ _ _ _ _ _ _ _ c.turns.invariant (sym c.in-Failed.ensures.turn) c.in_err-end-in-Failed.ensures.ended c.in_err-end-in-Failed.ensures.answers)

pub turns-preserved-in-Continue-1 : goal.turns-preserved-in-Continue-1
turns-preserved-in-Continue-1 g c =
    let e = c.in_ok-send-in-Send.ensures in
    rw e.session (sent_on _ _ _ _ _ _ _ _ _ _ _ _ _ c.turns.invariant e.talk e.receives e.peer.counts)

pub turns-smaller-in-Continue-branch-2 : goal.turns-smaller-in-Continue-branch-2
turns-smaller-in-Continue-branch-2 g c =
    received_less (g.P.Peer.told c.turns.peer) (g.P.Peer.told c.receive.new.peer) c.turns.session c.receive.new.session (sym c.in-Receive.ensures.turn) (c.in-Receive.ensures.receives refl) c.in_ok-receive-in-Receive.ensures.taken

pub turns-preserved-in-Continue-branch-2 : goal.turns-preserved-in-Continue-branch-2
turns-preserved-in-Continue-branch-2 g c =
    let e = c.in_ok-receive-in-Receive.ensures in
    received_on g.P.Peer.answers (g.P.Peer.told c.args.peer.now) (g.P.Peer.told c.turns.peer) (g.P.Peer.told c.receive.new.peer) c.args.session.now c.turns.session c.receive.new.session (g.P.Peer.faults c.args.peer.now) (g.P.Peer.faults c.turns.peer) (g.P.Peer.faults c.receive.new.peer) (g.I.Interrupt.yes c.args.interrupt.now) (g.I.Interrupt.yes c.turns.interrupt) (g.I.Interrupt.yes c.receive.new.interrupt) (g.I.Interrupt.will_stop c.args.interrupt.now) (g.I.Interrupt.will_stop c.turns.interrupt) (g.I.Interrupt.will_stop c.receive.new.interrupt) c.turns.invariant (sym c.in-Receive.ensures.turn) (c.in-Receive.ensures.receives refl) e.taken e.receives e.peer.counts e.interrupt
