use Rattle.std.proofs.Common.{◌≡◌, filter, take}
use Rattle.std.specs.FinMap.{keys}
use Rattle.fetch_store.specs.Marks.{ids_at, is_among}
use Rattle.fetch_store.proofs.reach.ids_found.Given as goal

abbrev pub invariant-loop-place : goal.invariant-loop-place
invariant-loop-place l =
    let stored = keys l.store.objects in l.ids.items ≡ filter (λ id. is_among id (ids_at stored l.found.places.items)) (take l.place stored)
