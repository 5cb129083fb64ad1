use Rattle.std.proofs.Common.{◌≡◌, ◌-◌, ◌^◌, ◌+◌, ◌≤◌, take}
use Rattle.std.specs.Prelude.{IfSome}
use Rattle.fetch_store.specs.Spread.{looked_at}
use Rattle.fetch_store.proofs.Spreading.{IsSpreading}
use Rattle.fetch_store.proofs.walk.spread.Given as goal

abbrev pub invariant-loop-done : goal.invariant-loop-done
invariant-loop-done g l = record {
  spreading : IsSpreading (g.N.Next.nexts l.next) l.starts l.found l.done l.level;
  few : IfSome l.limit (λ n. l.level ≤ n);
  behind : l.level ≤ l.done;
  steps : l.steps ≡ l.fn.steps + looked_at (g.N.Next.nexts l.next) l.starts (take l.done l.found);
}

abbrev pub decreases-loop-done : goal.decreases-loop-done
decreases-loop-done g l = 2 ^ 64 - l.done
