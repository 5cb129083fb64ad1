use Rattle.std.proofs.Common.{◌≡◌, take, drop}
use Rattle.fetch_store.specs.Stores.{add_all, collision}
use Rattle.fetch_store.proofs.collisions.first_collision_of_distinct.Given as goal

abbrev pub invariant-loop-id : goal.invariant-loop-id
invariant-loop-id l = collision (add_all l.store.objects (take l.id-index l.objects)) (drop l.id-index l.objects) ≡ collision l.store.objects l.objects
