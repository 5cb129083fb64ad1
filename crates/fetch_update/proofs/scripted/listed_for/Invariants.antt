use Rattle.std.proofs.Common.{◌≡◌, drop}
use Rattle.fetch_update.specs.Scripts.{listed_for}
use Rattle.fetch_update.proofs.scripted.listed_for.Given as goal

abbrev pub invariant-faults : goal.invariant-faults
invariant-faults l = listed_for (drop l.number-index l.failing) l.call ≡ listed_for l.failing l.call
