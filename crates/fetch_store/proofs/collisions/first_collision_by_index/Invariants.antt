use Rattle.std.proofs.Common.{◌≡◌, take, drop}
use Rattle.std.specs.FinMap.{entries}
use Rattle.fetch_store.specs.Stores.{add_all, collision}
use Rattle.fetch_store.proofs.Indexed.{Indexes}
use Rattle.fetch_store.proofs.collisions.first_collision_by_index.Given as goal

abbrev pub invariant-loop-id : goal.invariant-loop-id
invariant-loop-id l = record {
  same : collision (add_all l.store.objects (take l.id-index l.objects)) (drop l.id-index l.objects) ≡ collision l.store.objects l.objects;
  indexed : Indexes (entries l.store.objects) (take l.id-index l.objects) l.earlier;
}
