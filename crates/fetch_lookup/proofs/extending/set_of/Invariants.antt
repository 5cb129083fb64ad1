use Rattle.std.proofs.Common.{◌≡◌, drop}
use Rattle.fetch_lookup.specs.Ordered.{ascending, placed}
use Rattle.fetch_lookup.specs.SpecOrder.{spec_cmp}
use Rattle.fetch_lookup.proofs.extending.set_of.Given as goal

abbrev pub invariant-loop-spec : goal.invariant-loop-spec
invariant-loop-spec l = placed spec_cmp l.set.keys (drop l.spec-index l.specs) ≡ ascending spec_cmp l.specs
