use Rattle.std.proofs.Common.{◌≡◌, ◌++◌, take, map}
use Rattle.fetch_lines.specs.ServerLines.{capability_text}
use Rattle.fetch_lines.proofs.server.server_lines.append_capabilities.Given as goal

abbrev pub invariant-loop-capability : goal.invariant-loop-capability
invariant-loop-capability l = l.texts.items ≡ l.fn.texts.items ++ map capability_text (take l.capability-index l.capabilities)
