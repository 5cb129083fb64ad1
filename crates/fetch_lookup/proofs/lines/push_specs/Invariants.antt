use Rattle.std.proofs.Common.{◌≡◌, ◌++◌, drop}
use Rattle.fetch_lookup.specs.Saved as spec
use Rattle.fetch_lookup.proofs.lines.push_specs.Given as goal

abbrev pub invariant-loop-spec : goal.invariant-loop-spec
invariant-loop-spec l = l.lines.items ++ spec.spec_lines l.direction (drop l.spec-index l.specs) ≡ l.fn.lines.items ++ spec.spec_lines l.direction l.specs
