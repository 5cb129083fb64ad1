use Rattle.std.proofs.Common.{sym, ap, ◌∙◌}
use Rattle.std.specs.Prelude.{if◌then◌else◌}
use Rattle.fetch_store.specs.Closed.{others, links, links_within}
use Rattle.fetch_store.specs.Iter.{left}
use Rattle.fetch_store.specs.Missing.{unstored, unlinked_in}
use Rattle.fetch_objects.specs.References.{seen}
use Rattle.fetch_check.specs.Pairs.{with_pairs, pairs_of}
use Rattle.fetch_check.proofs.Firsts.{with_both_links}
use Rattle.fetch_check.proofs.missing.add_unlinked.Goals as goal

pub loop-id-preserved : goal.loop-id-preserved
loop-id-preserved c =
    let objects = c.args.store.now.objects in
    let border = c.args.border.now in
    let o = seen c.in-Some.object in
    let rest = left c.next.new.self in
    let links_are = c.within.ensures ∙ ap (λ b. if b then others o else links o) c.contains.ensures in
    ap (λ f. with_pairs f (pairs_of (unlinked_in objects border rest)))
    (c.in_ok-add_unstored.ensures ∙ ap (λ ids. with_pairs c.loop-id.found (pairs_of (unstored objects c.in-Some.id ids))) links_are)
    ∙ sym (with_both_links c.loop-id.found (unstored objects c.in-Some.id (links_within border c.in-Some.id o)) (unlinked_in objects border rest))
    ∙ sym (ap (λ es. with_pairs c.loop-id.found (pairs_of (unlinked_in objects border es))) c.in-Some.ensures.steps)
    ∙ c.loop-id.invariant
