use Rattle.std.proofs.Common.{◌≡◌, drop}
use Rattle.fetch_lookup.specs.Extended.{extended}
use Rattle.fetch_lookup.specs.Ordered.{ascending}
use Rattle.fetch_lookup.specs.SpecOrder.{spec_cmp}
use Rattle.fetch_lookup.proofs.extending.extended.Given as goal

abbrev pub invariant-loop-spec : goal.invariant-loop-spec
invariant-loop-spec l = record { known : l.known.keys ≡ ascending spec_cmp l.all.items; same : extended l.all.items (drop l.spec-index l.added) ≡ extended l.there l.added }
