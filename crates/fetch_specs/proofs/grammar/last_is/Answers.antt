use Rattle.std.proofs.Common.{arith}
use Rattle.fetch_specs.proofs.Components.{last_is-at}
use Rattle.fetch_specs.proofs.grammar.last_is.Goals as goal

pub returns-in-len1-up : goal.returns-in-len1-up
returns-in-len1-up c = last_is-at c.args.byte c.args.text.now (omega arith)
