use Rattle.std.proofs.Common.{refl, ◌∙◌, ap}
use Rattle.fetch_store.proofs.IndexOf.{indexing_more, indexing_done, indexing_none}
use Rattle.fetch_store.proofs.index.first_of_each.Goals as goal

pub loop-id-init : goal.loop-id-init
loop-id-init c =
    indexing_none c.args.objects.now c.into_iter-id-iterator.result.iter.rest.now c.new-index.result
    (ap (λ i. i.iter.rest.now) c.into_iter-id-iterator.ensures.into_iter_gives ∙ ap (λ i. i.rest.now) c.rev-id-items.ensures.source ∙ c.iter.ensures.rest) c.new-index.ensures.empty

pub loop-id-preserved : goal.loop-id-preserved
loop-id-preserved c =
    indexing_more c.args.objects.now c.loop-id.id-iterator.iter.rest.now c.next.new.self.iter.rest.now c.loop-id.index c.insert.new.self c.in-Some.field-0.now _
    c.in-Some.ensures.steps refl c.in_ok-insert.ensures.updates c.loop-id.invariant

pub returns : goal.returns
returns c = indexing_done c.args.objects.now c.loop-id.id-iterator.iter.rest.now c.loop-id.index c.in-None.ensures.steps.0 c.loop-id.invariant
