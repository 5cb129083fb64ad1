use Rattle.std.proofs.Common.{◌≡◌, ℕ, List, take}
use Rattle.fetch_specs.specs.Conflicts.{sources_at, sources_to}
use Rattle.fetch_specs.proofs.conflict.sources_to.Given as goal

abbrev pub invariant-loop-i : goal.invariant-loop-i
invariant-loop-i l = (text : List ℕ) → sources_at l.sources.entries text ≡ sources_to (take l.i l.matches) text
