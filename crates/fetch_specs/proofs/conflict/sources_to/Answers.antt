use Rattle.fetch_specs.proofs.Taking.{sources-turn}
use Rattle.fetch_specs.proofs.conflict.sources_to.Goals as goal

pub loop-i-preserved : goal.loop-i-preserved
loop-i-preserved c = λ text.
    sources-turn c.args.matches.now c.loop-i.i c.index-matches-i.result text c.loop-i.sources.entries c.add_source.new.sources.entries c.loop-i-test.true c.index-matches-i.is
    (c.loop-i.invariant text) (c.in_ok-add_source.ensures text)
