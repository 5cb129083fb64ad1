use Rattle.fetch_conversation.proofs.Turns.{Holds, turns_left}
use Rattle.fetch_conversation.proofs.drive.take_turns.Given as goal

abbrev pub invariant-turns : goal.invariant-turns
invariant-turns g l =
    Holds g.P.Peer.answers (g.P.Peer.told l.fn.peer) (g.P.Peer.told l.peer) l.fn.session l.session (g.P.Peer.faults l.fn.peer) (g.P.Peer.faults l.peer) (g.I.Interrupt.yes l.fn.interrupt) (g.I.Interrupt.yes l.interrupt) (g.I.Interrupt.will_stop l.fn.interrupt) (g.I.Interrupt.will_stop l.interrupt)

abbrev pub decreases-turns : goal.decreases-turns
decreases-turns g l = turns_left l.session
