use Rattle.std.proofs.Common.{length}
use Rattle.fetch_specs.proofs.grammar.+common.Given as goal

abbrev pub decreases-common : goal.decreases-common
decreases-common l = length l.word.now
