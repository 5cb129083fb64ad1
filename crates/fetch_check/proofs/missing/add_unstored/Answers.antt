use Rattle.std.proofs.Common.{false, sym, ◌∙◌}
use Rattle.fetch_objects.specs.References.{ids_left}
use Rattle.fetch_check.proofs.Firsts.{added, next_link}
use Rattle.fetch_check.proofs.missing.add_unstored.Goals as goal

pub loop-to-preserved-in_ok-add : goal.loop-to-preserved-in_ok-add
loop-to-preserved-in_ok-add c =
    next_link c.args.store.now.objects c.args.from.now c.in-Some.to (ids_left c.next.new.self) (ids_left c.loop-to.links) c.loop-to.found c.add.new.self false c.in-Some.ensures.steps
    (sym c.contains.ensures ∙ c.if-not-contains.true)
    (added c.loop-to.found c.add.new.self (record { from = c.args.from.now; to = c.in-Some.to }) c.in_ok-add.ensures.added)
    ∙ c.loop-to.invariant
