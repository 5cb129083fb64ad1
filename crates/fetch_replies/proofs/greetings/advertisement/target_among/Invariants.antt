use Rattle.std.proofs.Common.{◌≡◌, drop}
use Rattle.std.specs.Option.{option_copied, option_or}
use Rattle.fetch_replies.specs.Advertisements.{target_among}
use Rattle.fetch_replies.proofs.greetings.advertisement.target_among.Given as goal

abbrev pub invariant-loop-capability : goal.invariant-loop-capability
invariant-loop-capability l = option_or (target_among l.name (drop l.capability-index l.capabilities)) (option_copied l.found) ≡ target_among l.name l.capabilities
