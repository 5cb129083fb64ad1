use Rattle.std.proofs.Common.{◌<◌, filter, length, take_all, ap, ◌∙◌, arith}
use Rattle.std.specs.FinMap.{keys}
use Rattle.fetch_store.specs.Marks.{ids_at, is_among}
use Rattle.fetch_store.proofs.Marking.{keys-len, one_kept}
use Rattle.fetch_store.proofs.reach.ids_found.Goals as goal

pub at-id-requires : goal.at-id-requires
at-id-requires c = omega (arith, c.requires.len, keys-len c.args.store.now.objects, c.loop-place-test.true)

pub loop-place-preserved : goal.loop-place-preserved
loop-place-preserved c =
    let stored = keys c.args.store.now.objects in
    let lt : c.loop-place.place < length stored = omega (arith, c.requires.len, c.loop-place-test.true) in
    one_kept stored c.args.found.now.marks.items c.args.found.now.places.items c.loop-place.place c.at-id.result.0 c.index-is_found.result.now _ c.loop-place.ids.items c.push_if.new.values.items c.requires lt c.at-id.ensures.id c.index-is_found.ensures
    c.loop-place.invariant c.in_ok-push_if.ensures

pub returns : goal.returns
returns c =
    let stored = keys c.args.store.now.objects in
    c.loop-place.invariant ∙ ap (filter (λ id. is_among id (ids_at stored c.args.found.now.places.items))) (take_all c.loop-place.place stored (omega (arith, c.requires.len, c.loop-place-test.false)))
