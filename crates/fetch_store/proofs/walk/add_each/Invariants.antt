use Rattle.std.proofs.Common.{◌≡◌, ◌+◌, drop}
use Rattle.fetch_store.specs.Found.{there, with_each}
use Rattle.fetch_store.proofs.walk.add_each.Given as goal

abbrev pub invariant-loop-id : goal.invariant-loop-id
invariant-loop-id g l = record {
  found : with_each l.found (there (g.N.Next.nexts l.next) (drop l.id-index l.ids)) ≡ with_each l.initial.found (there (g.N.Next.nexts l.next) l.ids);
  steps : l.steps ≡ l.initial.steps + l.id-index;
}
