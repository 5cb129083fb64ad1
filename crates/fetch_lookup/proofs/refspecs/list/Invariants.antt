use Rattle.std.proofs.Common.{◌≡◌, ◌++◌}
use Rattle.fetch_lookup.proofs.refspecs.list.Given as goal

abbrev pub invariant-loop-spec : goal.invariant-loop-spec
invariant-loop-spec l = l.specs.items ++ l.spec-iterator ≡ l.fn.set.keys
