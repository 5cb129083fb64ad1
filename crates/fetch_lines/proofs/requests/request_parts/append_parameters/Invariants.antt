use Rattle.std.proofs.Common.{◌≡◌, ◌++◌, drop}
use Rattle.fetch_lines.specs.Requests.{parameters_text}
use Rattle.fetch_lines.proofs.requests.request_parts.append_parameters.Given as goal

abbrev pub invariant-loop-parameter : goal.invariant-loop-parameter
invariant-loop-parameter l = l.out.items ++ parameters_text (drop l.parameter-index l.parameters) ≡ l.fn.out.items ++ parameters_text l.parameters
