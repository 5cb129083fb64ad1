use Rattle.std.proofs.Common.{◌≡◌, take, false}
use Rattle.std.specs.List.{list_any}
use Rattle.fetch_specs.specs.Matches.{excludes}
use Rattle.fetch_specs.proofs.matching.is_excluded.Given as goal

abbrev pub invariant-loop-spec : goal.invariant-loop-spec
invariant-loop-spec l = list_any (excludes l.name) (take l.spec-index l.specs) ≡ false
