use Rattle.std.proofs.Common.{◌≡◌, take, false}
use Rattle.std.specs.List.{list_any}
use Rattle.fetch_specs.specs.Conflicts.{is_same_source}
use Rattle.fetch_specs.proofs.conflict.has_source.Given as goal

abbrev pub invariant-loop-other : goal.invariant-loop-other
invariant-loop-other l = list_any (λ s. is_same_source s l.source) (take l.other-index l.sources) ≡ false
