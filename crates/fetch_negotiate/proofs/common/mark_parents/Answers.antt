use Rattle.std.proofs.Common.{◌≡◌, ◌<◌, List, [], get_or, length, take, sym, ap, subst, ◌∙◌}
use Rattle.fetch_base.specs.declared.id.ObjectId.{ObjectId}
use Rattle.fetch_base.specs.declared.id.ObjectId.TheVariants as ids
use Rattle.fetch_negotiate.specs.Reading.{links_at, read_in}
use Rattle.fetch_negotiate.specs.Sharing.{IsWithin}
use Rattle.fetch_negotiate.proofs.Commons.{marking_further, within_at}
use Rattle.fetch_negotiate.proofs.Growing.{links_grown}
use Rattle.fetch_negotiate.proofs.common.mark_parents.Goals as goal

pub returns-in_err-mark_one-clause-common : goal.returns-in_err-mark_one-clause-common
returns-in_err-mark_one-clause-common g c =
    let k = read_in c.args.table.now in
    let l = read_in c.loop-index.table in
    let b = c.args.border.now in
    let i = c.loop-index.index in
    let links : List ObjectId = links_at k b c.args.id.now in
    let same : c.links.result.now ≡ links = c.links.ensures ∙ links_grown k l c.loop-index.invariant.grows b c.args.id.now c.requires.read in
    let lt : i < length links = subst (λ (x : List ObjectId). i < length x) c.links-count.ensures c.loop-index-test.true in
    let within =
    subst (λ (x : List ObjectId). IsWithin l b c.loop-index.common.acknowledged.items (get_or x i (ids.Sha1 []))) (sym same)
    (within_at k l b c.args.common.now c.loop-index.common (g.O.Objects.graph c.args.objects.now) links (take i links) i (ids.Sha1 []) lt c.loop-index.invariant c.requires.within) in
    c.in_err-mark_one.ensures.common b c.loop-index.invariant.common within

pub loop-index-preserved : goal.loop-index-preserved
loop-index-preserved g c =
    let k = read_in c.args.table.now in
    let l = read_in c.loop-index.table in
    let b = c.args.border.now in
    let i = c.loop-index.index in
    let links : List ObjectId = links_at k b c.args.id.now in
    let same : c.links.result.now ≡ links = c.links.ensures ∙ links_grown k l c.loop-index.invariant.grows b c.args.id.now c.requires.read in
    let lt : i < length links = subst (λ (x : List ObjectId). i < length x) c.links-count.ensures c.loop-index-test.true in
    let within =
    subst (λ (x : List ObjectId). IsWithin l b c.loop-index.common.acknowledged.items (get_or x i (ids.Sha1 []))) (sym same)
    (within_at k l b c.args.common.now c.loop-index.common (g.O.Objects.graph c.args.objects.now) links (take i links) i (ids.Sha1 []) lt c.loop-index.invariant c.requires.within) in
    let e = c.in_ok-mark_one.ensures in
    marking_further k l (read_in c.mark_one.new.table) b c.args.common.now c.loop-index.common c.mark_one.new.common (g.O.Objects.graph c.args.objects.now) links i (ids.Sha1 []) (get_or c.links.result.now i (ids.Sha1 [])) lt
    (ap (λ (x : List ObjectId). get_or x i (ids.Sha1 [])) same) c.loop-index.invariant (e.common b c.loop-index.invariant.common within) e.told e.grows e.more e.done e.acknowledged e.finished e.closed
