use Rattle.std.proofs.Common.{sym, ◌∙◌}
use Rattle.std.specs.FinMap.{keys}
use Rattle.fetch_store.proofs.Marking.{keys-len, unmarked}
use Rattle.fetch_store.proofs.reach.none_found.Goals as goal

pub returns-clause-marked : goal.returns-clause-marked
returns-clause-marked c =
    let objects = c.args.store.now.objects in
    unmarked (keys objects) c.in_ok-marks.marks.items c.new-places.result.items c.len.result (c.len.ensures ∙ sym (keys-len objects)) (c.in_ok-marks.ensures.items_if_clones_equal (λ y same. same)) c.new-places.ensures.items
