use Rattle.std.proofs.Common.{◌≡◌, ◌<◌, ◌+◌, [], ℕ, List, drop, filter, get_or, length, refl, sym, ap, ◌∙◌, arith}
use Rattle.std.specs.FinMap.{contains_key, keys}
use Rattle.std.proofs.lemmas.List.{drop_all, drop_more, get_or-map, length-map}
use Rattle.std.proofs.lemmas.List.Elements.{All-get_or}
use Rattle.fetch_base.specs.declared.id.ObjectId.{ObjectId}
use Rattle.fetch_base.specs.declared.id.ObjectId.TheVariants.{Sha1}
use Rattle.fetch_store.specs.Closed.{holding}
use Rattle.fetch_store.specs.Found.{there, with_each}
use Rattle.fetch_store.specs.Marks.{ids_at}
use Rattle.fetch_objects.specs.References.{ids_left}
use Rattle.fetch_store.specs.Spread.{next_to, nexts_in}
use Rattle.fetch_store.proofs.Marking.{keys-len}
use Rattle.fetch_store.proofs.Walking.{all_reached, ascends, begins, goes_on, looked, looked_up, more, there_stored}
use Rattle.fetch_store.proofs.reach.reached.Goals as goal

pub loop-id-init : goal.loop-id-init
loop-id-init g c =
    let objects = c.args.store.now.objects in
    record {
      found = ap (λ (ps : List ℕ). with_each (ids_at (keys objects) ps) (filter (contains_key objects) c.args.starts.now)) c.in_ok-found.ensures.places;
      marked = c.in_ok-found.ensures.marked;
      steps = refl;
      grows = omega arith;
    }

pub loop-id-preserved : goal.loop-id-preserved
loop-id-preserved g c =
    let objects = c.args.store.now.objects in
    let starts = c.args.starts.now in
    let before = ids_at (keys objects) c.loop-id.found.places.items in
    let i = c.loop-id.id-index in
    let here = drop_more starts i _ c.loop-id-test.true in
    record {
      found =
          looked_up objects before (ids_at (keys objects) c.add.new.found.places.items) (drop (i + 1) starts) _ c.in_ok-add.ensures.found
          ∙ ap (λ (xs : List ObjectId). with_each before (filter (contains_key objects) xs)) (sym here) ∙ c.loop-id.invariant.found;
      marked = c.in_ok-add.ensures.marked;
      steps = omega (arith, c.tick.ensures, ap length here, c.loop-id.invariant.steps);
      grows = omega (arith, c.tick.ensures, c.loop-id.invariant.grows);
    }

pub walk-init : goal.walk-init
walk-init g c =
    let objects = c.args.store.now.objects in
    let starts = c.args.starts.now in
    let h = holding objects c.args.border.now in
    let found = ids_at (keys objects) c.loop-id.found.places.items in
    let none : drop c.loop-id.id-index starts ≡ [] = drop_all c.loop-id.id-index starts (omega (arith, c.loop-id-test.false)) in
    record {
      walking =
          begins (nexts_in h) starts found
          (sym (ap (λ (ids : List ObjectId). with_each found (filter (contains_key objects) ids)) none) ∙ c.loop-id.invariant.found ∙ ap (λ (ids : List ObjectId). with_each [] ids) (sym (there_stored h starts)));
      marked = c.loop-id.invariant.marked;
      steps = omega (arith, ap length none, c.loop-id.invariant.steps);
      grows = c.loop-id.invariant.grows;
    }

pub links_of-requires : goal.links_of-requires
links_of-requires g c =
    let places = c.walk.found.places.items in
    let place = c.index-place.result.now in
    let inside = All-get_or (λ p. p < length (keys c.args.store.now.objects)) places c.walk.done place (omega (arith, c.walk-test.true)) c.walk.invariant.marked.within in
    omega (arith, inside, c.index-place.ensures, keys-len c.args.store.now.objects)

pub walk-preserved : goal.walk-preserved
walk-preserved g c =
    let objects = c.args.store.now.objects in
    let stored = keys objects in
    let starts = c.args.starts.now in
    let h = holding objects c.args.border.now in
    let nexts = nexts_in h in
    let places = c.walk.found.places.items in
    let found = ids_at stored places in
    let now = ids_at stored c.add_links.new.found.places.items in
    let done = c.walk.done in
    let none : ObjectId = Sha1 [] in
    let within : done < length places = omega (arith, c.walk-test.true) in
    let lt : done < length found = omega (arith, within, length-map places (λ (p : ℕ). get_or stored p none)) in
    let place = c.index-place.result.now in
    let same : get_or found done none ≡ get_or stored place none = get_or-map (λ (p : ℕ). get_or stored p none) places done place none within ∙ ap (λ (p : ℕ). get_or stored p none) (sym c.index-place.ensures) in
    let links : ids_left c.links_of.result ≡ next_to nexts (get_or found done none) = c.links_of.ensures none ∙ ap (next_to nexts) (sym same) in
    let is : now ≡ with_each found (there nexts (next_to nexts (get_or found done none))) =
    c.in_ok-add_links.ensures.found ∙ ap (λ (xs : List ObjectId). with_each found (filter (contains_key objects) xs)) links ∙ ap (λ (xs : List ObjectId). with_each found xs) (sym (there_stored h (next_to nexts (get_or found done none)))) in
    record {
      walking = goes_on nexts starts found done c.walk.invariant.walking none now lt is;
      marked = c.in_ok-add_links.ensures.marked;
      steps = omega (arith, c.in_ok-add_links.ensures.steps, ap length links, more nexts starts found now done none lt is, c.walk.invariant.steps);
      grows = omega (arith, c.add_links.ensures.grows, c.walk.invariant.grows);
    }

pub returns-clause-ids : goal.returns-clause-ids
returns-clause-ids g c =
    let objects = c.args.store.now.objects in
    let places = c.walk.found.places.items in
    let none : ObjectId = Sha1 [] in
    all_reached (holding objects c.args.border.now) c.args.starts.now (ids_at (keys objects) places) c.from.result c.walk.done c.walk.invariant.walking
    (omega (arith, c.walk-test.false, length-map places (λ (p : ℕ). get_or (keys objects) p none))) (c.from.ensures ∙ c.in_ok-ids.ensures)

pub returns-clause-ascending : goal.returns-clause-ascending
returns-clause-ascending g c =
    let objects = c.args.store.now.objects in
    let places = c.walk.found.places.items in
    let none : ObjectId = Sha1 [] in
    ascends (holding objects c.args.border.now) c.args.starts.now (ids_at (keys objects) places) c.from.result c.walk.done c.walk.invariant.walking
    (omega (arith, c.walk-test.false, length-map places (λ (p : ℕ). get_or (keys objects) p none))) (c.from.ensures ∙ c.in_ok-ids.ensures)

pub returns-clause-cost : goal.returns-clause-cost
returns-clause-cost g c =
    let objects = c.args.store.now.objects in
    let places = c.walk.found.places.items in
    let none : ObjectId = Sha1 [] in
    let few =
    looked (holding objects c.args.border.now) c.args.starts.now (ids_at (keys objects) places) c.from.result c.walk.done c.walk.invariant.walking
    (omega (arith, c.walk-test.false, length-map places (λ (p : ℕ). get_or (keys objects) p none))) (c.from.ensures ∙ c.in_ok-ids.ensures) in
    omega (arith, few, c.walk.invariant.steps)
