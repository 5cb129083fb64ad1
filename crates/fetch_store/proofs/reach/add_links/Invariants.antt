use Rattle.std.proofs.Common.{◌≡◌, ◌+◌, ◌≤◌, filter, length}
use Rattle.std.specs.FinMap.{contains_key, keys}
use Rattle.fetch_store.specs.Found.{with_each}
use Rattle.fetch_store.specs.Marks.{AreMarked, ids_at}
use Rattle.fetch_objects.specs.References.{ids_left}
use Rattle.fetch_store.proofs.reach.add_links.Given as goal

abbrev pub invariant-links : goal.invariant-links
invariant-links g l =
    let stored = keys l.store.objects in
    let stands = contains_key l.store.objects in
    record {
      found : with_each (ids_at stored l.found.places.items) (filter stands (ids_left l.links)) ≡ with_each (ids_at stored l.initial.found.places.items) (filter stands (ids_left l.initial.links));
      marked : AreMarked stored l.found.marks.items l.found.places.items;
      steps : l.steps + length (ids_left l.links) ≡ l.initial.steps + length (ids_left l.initial.links);
      grows : l.initial.steps ≤ l.steps;
    }

abbrev pub decreases-links : goal.decreases-links
decreases-links g l = length (ids_left l.links)
