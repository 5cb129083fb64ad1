use Rattle.std.proofs.Common.{◌≡◌, ap, ap₂, ◌∙◌}
use Rattle.std.specs.Prelude.{if◌then◌else◌, slice_get}
use Rattle.fetch_objects.specs.References.{ids_left}
use Rattle.fetch_objects.specs.Objects.{Stored}
use Rattle.fetch_store.specs.Closed.{links, others, links_within}
use Rattle.fetch_store.specs.Missing.{unstored}
use Rattle.fetch_store.proofs.Firsts.{from, found_first, passed_first}
use Rattle.fetch_store.proofs.take.first_unlinked.Goals as goal

pub returns-in-Some : goal.returns-in-Some
returns-in-Some c =
    let all = c.args.held.now in
    let e = c.loop-id-item.result in
    let owed : ids_left c.links_within-links.result ≡ links_within c.args.border.now e.0 e.1 =
    c.links_within-links.ensures ∙ ap₂ (λ b (o : Stored). if b then others o else links o) c.contains.ensures c.as_ref.ensures.same in
    found_first (λ x. unstored all x.0 (links_within c.args.border.now x.0 x.1)) c.args.objects.now c.loop-id.id-index e c.in-Some.missing (from c.args.objects.now c.loop-id.id-index e c.loop-id-test.true c.loop-id-item.is)
    (c.in-Some.ensures ∙ ap (λ ids. slice_get (unstored all e.0 ids) 0) owed) c.loop-id.invariant

pub loop-id-preserved : goal.loop-id-preserved
loop-id-preserved c =
    let all = c.args.held.now in
    let e = c.loop-id-item.result in
    let owed : ids_left c.links_within-links.result ≡ links_within c.args.border.now e.0 e.1 =
    c.links_within-links.ensures ∙ ap₂ (λ b (o : Stored). if b then others o else links o) c.contains.ensures c.as_ref.ensures.same in
    passed_first (λ x. unstored all x.0 (links_within c.args.border.now x.0 x.1)) c.args.objects.now c.loop-id.id-index e (from c.args.objects.now c.loop-id.id-index e c.loop-id-test.true c.loop-id-item.is)
    (c.in_default.ensures ∙ ap (λ ids. slice_get (unstored all e.0 ids) 0) owed) c.loop-id.invariant
