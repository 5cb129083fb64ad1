use Rattle.std.proofs.Common.{◌≡◌, drop}
use Rattle.std.specs.Option.{option_copied, option_or}
use Rattle.fetch_lines.specs.Greetings.{last_named}
use Rattle.fetch_lines.proofs.greetings.greeting.last_named.Given as goal

abbrev pub invariant-loop-capability : goal.invariant-loop-capability
invariant-loop-capability l = option_or (last_named l.name (drop l.capability-index l.capabilities)) (option_copied l.found) ≡ last_named l.name l.capabilities
