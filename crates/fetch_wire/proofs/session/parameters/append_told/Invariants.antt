use Rattle.std.proofs.Common.{◌≡◌, ◌++◌, drop, map}
use Rattle.fetch_wire.specs.Parameters.{told_parameter}
use Rattle.fetch_wire.proofs.session.parameters.append_told.Given as goal

abbrev pub invariant-loop-parameter : goal.invariant-loop-parameter
invariant-loop-parameter l = l.texts.items ++ map told_parameter (drop l.parameter-index l.parameters) ≡ l.fn.texts.items ++ map told_parameter l.parameters
