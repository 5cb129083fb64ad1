use Rattle.std.proofs.Common.{btree_set_len, ◌∙◌}
use Rattle.fetch_negotiate.specs.Reading.{read_in}
use Rattle.fetch_negotiate.proofs.Ranking.{drops, contains_ranked}
use Rattle.fetch_negotiate.proofs.Taking.{chosen_read}
use Rattle.fetch_negotiate.proofs.Walks.{chosen_is, choosing_further, shrinks}
use Rattle.fetch_negotiate.proofs.walk.choose.Goals as goal

pub returns-then-is_open-clause-chosen : goal.returns-then-is_open-clause-chosen
returns-then-is_open-clause-chosen c =
    let w = c.loop-rank.walk in
    chosen_is (read_in w.table) w.common.commits.items w.frontier.taken.items w.frontier.candidates.items w.frontier.queue c.in-Some.rank c.is_open.result
    c.in-Some.ensures.found (c.loop-rank.invariant.walk.frontier.1.queued c.in-Some.rank c.in-Some.ensures.found.here) c.is_open.ensures c.if-is_open.true

pub loop-rank-preserved : goal.loop-rank-preserved
loop-rank-preserved c =
    choosing_further c.args.walk.now c.loop-rank.walk c.remove.new.self c.in-Some.rank c.is_open.result c.loop-rank.invariant
    (drops c.loop-rank.walk.frontier.queue c.remove.new.self c.in-Some.rank c.remove.ensures.updates) c.is_open.ensures c.if-is_open.false

pub loop-rank-smaller : goal.loop-rank-smaller
loop-rank-smaller c =
    shrinks c.remove.result (btree_set_len c.remove.new.self) (btree_set_len c.loop-rank.walk.frontier.queue) c.remove.ensures.len
    (c.remove.ensures.test ∙ contains_ranked c.loop-rank.walk.frontier.queue c.in-Some.rank ∙ c.in-Some.ensures.found.here)

pub returns-then-is_open-clause-read : goal.returns-then-is_open-clause-read
returns-then-is_open-clause-read c =
    let w = c.loop-rank.walk in
    chosen_read w c.in-Some.rank.1 c.loop-rank.invariant.walk
    (chosen_is (read_in w.table) w.common.commits.items w.frontier.taken.items w.frontier.candidates.items w.frontier.queue c.in-Some.rank c.is_open.result
    c.in-Some.ensures.found (c.loop-rank.invariant.walk.frontier.1.queued c.in-Some.rank c.in-Some.ensures.found.here) c.is_open.ensures c.if-is_open.true)
