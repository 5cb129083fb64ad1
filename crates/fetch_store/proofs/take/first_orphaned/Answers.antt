use Rattle.fetch_store.specs.Missing.{unstored, parents_at}
use Rattle.fetch_store.proofs.Firsts.{from_at, found_first, passed_first}
use Rattle.fetch_store.proofs.take.first_orphaned.Goals as goal

pub returns-in-Some : goal.returns-in-Some
returns-in-Some c =
    let all = c.args.held.now in
    found_first (λ id. unstored all id (parents_at all id)) c.args.ids.now c.loop-id.id-index _ c.in-Some.missing (from_at c.args.ids.now c.loop-id.id-index _ c.loop-id-test.true) (c.in-Some.ensures) c.loop-id.invariant

pub loop-id-preserved : goal.loop-id-preserved
loop-id-preserved c =
    let all = c.args.held.now in
    passed_first (λ id. unstored all id (parents_at all id)) c.args.ids.now c.loop-id.id-index _ (from_at c.args.ids.now c.loop-id.id-index _ c.loop-id-test.true) (c.in_default.ensures) c.loop-id.invariant
