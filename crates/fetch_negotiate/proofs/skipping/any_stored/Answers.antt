use Rattle.std.proofs.Common.{◌≡◌, ◌<◌, List, [], Some, get_or, length, ap, subst, ◌∙◌}
use Rattle.std.specs.Prelude.{is_some}
use Rattle.fetch_base.specs.declared.id.ObjectId.{ObjectId}
use Rattle.fetch_base.specs.declared.id.ObjectId.TheVariants as ids
use Rattle.fetch_negotiate.specs.Commits.{commit_of}
use Rattle.fetch_negotiate.specs.Reading.{links_at, read_in}
use Rattle.fetch_negotiate.proofs.Growing.{grows_then, links_grown}
use Rattle.fetch_negotiate.proofs.Handing.{any_found, none_further}
use Rattle.fetch_negotiate.proofs.skipping.any_stored.Goals as goal

pub returns-then-branch-clause-any : goal.returns-then-branch-clause-any
returns-then-branch-clause-any g c =
    let k = read_in c.args.table.now in
    let l = read_in c.loop-index.table in
    let m = read_in c.read.new.table in
    let h = g.O.Objects.graph c.args.objects.now in
    let i = c.loop-index.index in
    let e = c.in_ok-read.ensures in
    let links : List ObjectId = links_at k c.args.border.now c.args.id.now in
    let same : c.links.result.now ≡ links = c.links.ensures ∙ links_grown k l c.loop-index.invariant.grows c.args.border.now c.args.id.now c.requires.read in
    let lt : i < length links = subst (λ (x : List ObjectId). i < length x) c.links-count.ensures c.loop-index-test.true in
    any_found m h links i (ids.Sha1 []) c.in_ok-read.field-0 lt (subst (λ (x : List ObjectId). m (get_or x i (ids.Sha1 [])) ≡ Some (commit_of h (get_or x i (ids.Sha1 [])))) same e.found)
    (subst (λ (x : List ObjectId). c.in_ok-read.field-0 ≡ is_some (commit_of h (get_or x i (ids.Sha1 [])))) same e.stored) c.if-branch.true

pub loop-index-preserved : goal.loop-index-preserved
loop-index-preserved g c =
    let k = read_in c.args.table.now in
    let l = read_in c.loop-index.table in
    let m = read_in c.read.new.table in
    let h = g.O.Objects.graph c.args.objects.now in
    let i = c.loop-index.index in
    let e = c.in_ok-read.ensures in
    let v = c.loop-index.invariant in
    let links : List ObjectId = links_at k c.args.border.now c.args.id.now in
    let same : c.links.result.now ≡ links = c.links.ensures ∙ links_grown k l v.grows c.args.border.now c.args.id.now c.requires.read in
    let lt : i < length links = subst (λ (x : List ObjectId). i < length x) c.links-count.ensures c.loop-index-test.true in
    record {
      told = e.told;
      grows = grows_then k l m v.grows e.grows;
      none = none_further l m h links i (ids.Sha1 []) c.in_ok-read.field-0 lt e.grows (subst (λ (x : List ObjectId). m (get_or x i (ids.Sha1 [])) ≡ Some (commit_of h (get_or x i (ids.Sha1 [])))) same e.found)
          (subst (λ (x : List ObjectId). c.in_ok-read.field-0 ≡ is_some (commit_of h (get_or x i (ids.Sha1 [])))) same e.stored) c.if-branch.false v.none;
    }
