use Rattle.std.proofs.Common.{◌≡◌, drop}
use Rattle.fetch_update.specs.Policy.{policy_of}
use Rattle.fetch_update.specs.Outcomes.{verdicts_from}
use Rattle.fetch_update.proofs.Joined.{joined}
use Rattle.fetch_update.proofs.verdicts.verdicts.Given as goal

abbrev pub invariant-mappings : goal.invariant-mappings
invariant-mappings g l =
    let p = policy_of (g.O.Objects.graph l.objects) l.judge in
    joined l.verdicts.items (verdicts_from p l.refspecs l.extra_refspecs l.index (drop l.index l.mappings)) ≡ verdicts_from p l.refspecs l.extra_refspecs 0 l.mappings
