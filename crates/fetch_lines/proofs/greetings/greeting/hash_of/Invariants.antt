use Rattle.std.proofs.Common.{◌≡◌, drop, fold}
use Rattle.fetch_base.specs.declared.id.Kind.TheVariants.{Sha1}
use Rattle.fetch_lines.specs.Greetings.{hash_after}
use Rattle.fetch_lines.proofs.greetings.greeting.hash_of.Given as goal

abbrev pub invariant-loop-capability : goal.invariant-loop-capability
invariant-loop-capability l = fold hash_after l.kind (drop l.capability-index l.capabilities) ≡ fold hash_after Sha1 l.capabilities
