use Rattle.std.proofs.Common.{◌≡◌, ◌++◌, length}
use Rattle.fetch_negotiate.specs.Any.{algorithm_of, given_by, known_by, so_far_of}
use Rattle.fetch_negotiate.specs.Reading.{IsTold}
use Rattle.fetch_negotiate.proofs.Windowing.{IsTelling}
use Rattle.fetch_negotiate.proofs.any.AnyNegotiator.window.Given as goal

abbrev pub invariant-loop : goal.invariant-loop
invariant-loop g l =
    record {
      told : IsTold (known_by l.self) (g.O.Objects.graph l.objects);
      algorithm : algorithm_of l.self ≡ algorithm_of l.fn.self;
      telling : IsTelling (g.O.Objects.graph l.objects) (algorithm_of l.fn.self) l.size l.counter (so_far_of l.fn.self) (so_far_of l.self) l.window.items;
      given : given_by l.self ≡ given_by l.fn.self ++ l.window.items;
      long : length l.window.items ≡ l.counter;
    }
