use Rattle.std.proofs.Common.{◌≡◌, ◌++◌, drop, filter}
use Rattle.std.specs.FinSet as set
use Rattle.fetch_serve.proofs.depth.met.Given as goal

abbrev pub invariant-loop-id : goal.invariant-loop-id
invariant-loop-id l = l.found ++ filter (set.contains l.border) (drop l.id-index l.ids) ≡ filter (set.contains l.border) l.ids
