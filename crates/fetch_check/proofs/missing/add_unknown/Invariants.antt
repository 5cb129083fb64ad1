use Rattle.std.proofs.Common.{◌≡◌, drop}
use Rattle.fetch_store.specs.Missing.{unknown_in}
use Rattle.fetch_check.specs.Pairs.{pairs_of, with_pairs}
use Rattle.fetch_check.proofs.missing.add_unknown.Given as goal

abbrev pub invariant-loop-id : goal.invariant-loop-id
invariant-loop-id l = with_pairs l.found (pairs_of (unknown_in l.store.objects (drop l.id-index l.ids))) ≡ with_pairs l.fn.found (pairs_of (unknown_in l.store.objects l.ids))
