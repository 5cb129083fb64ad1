use Rattle.std.proofs.Common.{◌≡◌, take}
use Rattle.fetch_check.specs.Pairs.{links_of}
use Rattle.fetch_check.proofs.missing.links_of.Given as goal

abbrev pub invariant-loop-pair : goal.invariant-loop-pair
invariant-loop-pair l = l.missing ≡ links_of (take l.pair-index l.pairs)
