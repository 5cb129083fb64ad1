use Rattle.std.proofs.Common.{◌<◌, length, arith}
use Rattle.std.specs.FinMap.{keys}
use Rattle.fetch_store.specs.Marks.{ids_at}
use Rattle.fetch_store.proofs.Keys.{keys-rise}
use Rattle.fetch_store.proofs.Marking.{added, by_both, found_on, keys-len, marks_on, passed}
use Rattle.fetch_store.proofs.reach.add.Goals as goal

pub mark-requires : goal.mark-requires
mark-requires c = omega (arith, c.in-Some.ensures.within, c.requires.len, keys-len c.args.store.now.objects)

pub returns-in-Some-clause-found : goal.returns-in-Some-clause-found
returns-in-Some-clause-found c =
    let objects = c.args.store.now.objects in
    let stored = keys objects in
    let before = c.args.found.now in
    let now = c.mark.new.found in
    let place = c.in-Some.place in
    let id = c.args.id.now in
    let lt : place < length stored = omega (arith, c.in-Some.ensures.within, keys-len objects) in
    by_both c.mark.result
    (λ places marks.
    added objects (ids_at stored before.places.items) (ids_at stored now.places.items) place id c.in-Some.ensures.within c.in-Some.ensures.place
    (found_on stored before.marks.items before.places.items c.requires place id lt c.in-Some.ensures.place now.places.items places))
    c.mark.ensures.places c.mark.ensures.marks

pub returns-in-Some-clause-marked : goal.returns-in-Some-clause-marked
returns-in-Some-clause-marked c =
    let objects = c.args.store.now.objects in
    let stored = keys objects in
    let before = c.args.found.now in
    let now = c.mark.new.found in
    let place = c.in-Some.place in
    let lt : place < length stored = omega (arith, c.in-Some.ensures.within, keys-len objects) in
    by_both c.mark.result
    (λ places marks. marks_on stored before.marks.items before.places.items c.requires place c.args.id.now lt c.in-Some.ensures.place now.places.items places now.marks.items (keys-rise objects) marks)
    c.mark.ensures.places c.mark.ensures.marks

pub returns-in-None-clause-found : goal.returns-in-None-clause-found
returns-in-None-clause-found c =
    let objects = c.args.store.now.objects in passed objects (ids_at (keys objects) c.args.found.now.places.items) c.args.id.now c.in-None.ensures.place
