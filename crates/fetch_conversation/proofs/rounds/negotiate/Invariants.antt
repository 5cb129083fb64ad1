use Rattle.std.proofs.Common.{◌≡◌, suc, length}
use Rattle.std.specs.FinMap as map
use Rattle.fetch_base.specs.Faults.{Counts}
use Rattle.fetch_negotiate.specs.Any.{algorithm_of, known_by}
use Rattle.fetch_negotiate.specs.Reading.{IsTold}
use Rattle.fetch_conversation.specs.ConverseStage.{algorithm_in}
use Rattle.fetch_conversation.specs.Conversing.{rounds_state_of, arguments_told}
use Rattle.fetch_conversation.specs.Blame.{BlamesInterrupt}
use Rattle.fetch_conversation.specs.ListStage.{IsReady, shown, pending_of}
use Rattle.fetch_conversation.specs.Rounds.{first_rounds_state}
use Rattle.fetch_conversation.proofs.Ending.{IsRoundsState}
use Rattle.fetch_conversation.proofs.Held.{Goes}
use Rattle.fetch_conversation.proofs.rounds.negotiate.Given as goal

abbrev pub invariant-loop : goal.invariant-loop
invariant-loop g l = record {
  goes : Goes l.fn.listed.session.intake.bound (arguments_told (shown l.fn.listed) l.arguments) (g.O.Objects.graph l.objects) (algorithm_in l.arguments.settings.now) g.P.Peer.answers (g.P.Peer.told l.fn.peer) (g.P.Peer.told l.peer) (pending_of l.fn.listed) (pending_of l.listed)
      (suc (map.len (g.O.Objects.graph l.objects))) (first_rounds_state (algorithm_in l.arguments.settings.now) l.arguments.view.now) (rounds_state_of l.state) l.counter;
  state : IsRoundsState l.fn.listed.session.intake.bound (arguments_told (shown l.fn.listed) l.arguments) (g.O.Objects.graph l.objects) (algorithm_in l.arguments.settings.now) l.arguments.view.now (rounds_state_of l.state);
  held : length (rounds_state_of l.state).rounds ≡ l.counter;
  ready : IsReady l.listed;
  bound : l.listed.session.intake.bound ≡ l.fn.listed.session.intake.bound;
  kept : shown l.listed ≡ shown l.fn.listed;
  algorithm : algorithm_of l.state.negotiator ≡ algorithm_in l.arguments.settings.now;
  told : IsTold (known_by l.state.negotiator) (g.O.Objects.graph l.objects);
  counts : Counts (g.P.Peer.faults l.fn.peer) (g.P.Peer.faults l.peer);
  interrupt : BlamesInterrupt (g.I.Interrupt.yes l.fn.interrupt) (g.I.Interrupt.yes l.interrupt) (g.I.Interrupt.will_stop l.fn.interrupt) (g.I.Interrupt.will_stop l.interrupt) (g.P.Peer.told l.fn.peer) (g.P.Peer.told l.peer) 0;
}
