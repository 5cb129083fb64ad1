use Rattle.std.proofs.Common.{◌≡◌, map, take}
use Rattle.fetch_negotiate.specs.Skips as spec
use Rattle.fetch_negotiate.proofs.skips.first_pairs.Given as goal

abbrev pub invariant-loop-tip : goal.invariant-loop-tip
invariant-loop-tip l = l.pairs.items ≡ map (λ tip. (tip, spec.no_skip)) (take l.tip-index l.tips)
