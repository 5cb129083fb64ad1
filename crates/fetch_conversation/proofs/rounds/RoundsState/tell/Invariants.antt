use Rattle.std.proofs.Common.{◌≡◌, drop, fold}
use Rattle.fetch_negotiate.specs.Any.{algorithm_of, known_by, sharing, so_far_of}
use Rattle.fetch_negotiate.specs.Reading.{IsTold}
use Rattle.fetch_conversation.specs.Conversing.{rounds_state_of}
use Rattle.fetch_conversation.proofs.rounds.RoundsState.tell.Given as goal

abbrev pub invariant-loop-id : goal.invariant-loop-id
invariant-loop-id g l = record {
  so_far : fold (sharing (algorithm_of l.fn.self.negotiator)) (so_far_of l.self.negotiator) (drop l.id-index l.ids) ≡ fold (sharing (algorithm_of l.fn.self.negotiator)) (so_far_of l.fn.self.negotiator) l.ids;
  others : record (rounds_state_of l.self) { so_far = so_far_of l.fn.self.negotiator } ≡ rounds_state_of l.fn.self;
  algorithm : algorithm_of l.self.negotiator ≡ algorithm_of l.fn.self.negotiator;
  told : IsTold (known_by l.self.negotiator) (g.O.Objects.graph l.objects);
}
