use Rattle.std.proofs.Common.{List, filter, length, sym, ap, ◌∙◌, arith}
use Rattle.std.specs.FinMap.{contains_key, keys}
use Rattle.fetch_base.specs.declared.id.ObjectId.{ObjectId}
use Rattle.fetch_store.specs.Found.{with_each}
use Rattle.fetch_store.specs.Marks.{ids_at}
use Rattle.fetch_objects.specs.References.{ids_left}
use Rattle.fetch_store.proofs.Walking.{looked_up}
use Rattle.fetch_store.proofs.reach.add_links.Goals as goal

pub links-preserved : goal.links-preserved
links-preserved g c =
    let objects = c.args.store.now.objects in
    let stored = keys objects in
    let before = ids_at stored c.links.found.places.items in
    record {
      found =
          looked_up objects before (ids_at stored c.add.new.found.places.items) (ids_left c.next.new.self) c.in-Some.to c.in_ok-add.ensures.found
          ∙ ap (λ (xs : List ObjectId). with_each before (filter (contains_key objects) xs)) (sym c.in-Some.ensures.steps) ∙ c.links.invariant.found;
      marked = c.in_ok-add.ensures.marked;
      steps = omega (arith, c.tick.ensures, ap length c.in-Some.ensures.steps, c.links.invariant.steps);
      grows = omega (arith, c.tick.ensures, c.links.invariant.grows);
    }
