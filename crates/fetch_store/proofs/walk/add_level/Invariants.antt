use Rattle.std.proofs.Common.{◌≡◌, ◌≤◌, ◌+◌, ◌++◌, List, drop, sum_by, length}
use Rattle.fetch_base.specs.declared.id.ObjectId.{ObjectId}
use Rattle.fetch_store.specs.Found.{with_next}
use Rattle.fetch_store.specs.Spread.{next_to}
use Rattle.fetch_store.proofs.walk.add_level.Given as goal

abbrev pub invariant-loop-place : goal.invariant-loop-place
invariant-loop-place g l = record {
  found : with_next (g.N.Next.nexts l.next) l.found (drop l.place l.initial.found) ≡ with_next (g.N.Next.nexts l.next) l.initial.found (drop l.initial.from l.initial.found);
  begins : (more : List ObjectId) × (l.found ≡ l.initial.found ++ more);
  steps : l.steps + sum_by (λ id. length (next_to (g.N.Next.nexts l.next) id)) (drop l.place l.initial.found) ≡ l.initial.steps + sum_by (λ id. length (next_to (g.N.Next.nexts l.next) id)) (drop l.initial.from l.initial.found);
  grows : l.initial.steps ≤ l.steps;
}
