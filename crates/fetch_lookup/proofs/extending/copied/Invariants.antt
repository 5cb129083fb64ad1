use Rattle.std.proofs.Common.{◌≡◌, take}
use Rattle.fetch_lookup.proofs.extending.copied.Given as goal

abbrev pub invariant-loop-spec : goal.invariant-loop-spec
invariant-loop-spec l = l.copy.items ≡ take l.spec-index l.specs
