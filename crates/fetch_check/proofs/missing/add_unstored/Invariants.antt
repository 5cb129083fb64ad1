use Rattle.std.proofs.Common.{◌≡◌, length}
use Rattle.fetch_objects.specs.References.{ids_left}
use Rattle.fetch_store.specs.Missing.{unstored}
use Rattle.fetch_check.specs.Pairs.{pairs_of, with_pairs}
use Rattle.fetch_check.proofs.missing.add_unstored.Given as goal

abbrev pub invariant-loop-to : goal.invariant-loop-to
invariant-loop-to l =
    with_pairs l.found (pairs_of (unstored l.store.objects l.from (ids_left l.links))) ≡ with_pairs l.fn.found (pairs_of (unstored l.store.objects l.from (ids_left l.initial.links)))

abbrev pub decreases-loop-to : goal.decreases-loop-to
decreases-loop-to l = length (ids_left l.links)
