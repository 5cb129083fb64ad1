use Rattle.std.proofs.Common.{◌≡◌, ◌+◌, ◌-◌, ◌^◌, ◌≤◌, [], drop, filter, length, take}
use Rattle.std.specs.FinMap.{contains_key, keys}
use Rattle.fetch_store.specs.Closed.{holding}
use Rattle.fetch_store.specs.Found.{with_each}
use Rattle.fetch_store.specs.Marks.{AreMarked, ids_at}
use Rattle.fetch_store.specs.Spread.{looked_at, nexts_in}
use Rattle.fetch_store.proofs.Walking.{IsWalking}
use Rattle.fetch_store.proofs.reach.reached.Given as goal

abbrev pub invariant-loop-id : goal.invariant-loop-id
invariant-loop-id g l =
    let stored = keys l.fn.store.objects in
    let stands = contains_key l.fn.store.objects in
    record {
      found : with_each (ids_at stored l.found.places.items) (filter stands (drop l.id-index l.fn.starts)) ≡ with_each [] (filter stands l.fn.starts);
      marked : AreMarked stored l.found.marks.items l.found.places.items;
      steps : l.steps + length (drop l.id-index l.fn.starts) ≡ l.fn.steps + length l.fn.starts;
      grows : l.fn.steps ≤ l.steps;
    }

abbrev pub invariant-walk : goal.invariant-walk
invariant-walk g l =
    let stored = keys l.fn.store.objects in
    let nexts = nexts_in (holding l.fn.store.objects l.fn.border) in
    record {
      walking : IsWalking nexts l.fn.starts (ids_at stored l.found.places.items) l.done;
      marked : AreMarked stored l.found.marks.items l.found.places.items;
      steps : l.steps ≡ l.fn.steps + looked_at nexts l.fn.starts (take l.done (ids_at stored l.found.places.items));
      grows : l.fn.steps ≤ l.steps;
    }

abbrev pub decreases-walk : goal.decreases-walk
decreases-walk g l = 2 ^ 64 - l.done
