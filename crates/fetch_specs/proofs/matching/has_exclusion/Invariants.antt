use Rattle.std.proofs.Common.{◌≡◌, take, false}
use Rattle.std.specs.List.{list_any}
use Rattle.fetch_specs.specs.Matches.{is_exclusion}
use Rattle.fetch_specs.proofs.matching.has_exclusion.Given as goal

abbrev pub invariant-loop-spec : goal.invariant-loop-spec
invariant-loop-spec l = list_any (λ spec. is_exclusion spec.mode) (take l.spec-index l.specs) ≡ false
