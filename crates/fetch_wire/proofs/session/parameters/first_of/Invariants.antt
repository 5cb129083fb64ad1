use Rattle.std.proofs.Common.{◌≡◌, drop}
use Rattle.fetch_wire.specs.Parameters.{first_bad}
use Rattle.fetch_wire.proofs.session.parameters.first_of.Given as goal

abbrev pub invariant-loop-text : goal.invariant-loop-text
invariant-loop-text l = first_bad (drop l.text-index l.texts) ≡ first_bad l.texts
