use Rattle.std.proofs.Common.{[], ◌∷◌, ◌++◌, refl, sym}
use Rattle.fetch_refs.specs.Leading.{next_tag}
use Rattle.fetch_refs.proofs.Ends.{here, joined}
use Rattle.fetch_refs.proofs.TagWays.{eq}
use Rattle.fetch_refs.proofs.Walks.{leads_on}
use Rattle.fetch_refs.proofs.tag_ends.known_end.Goals as goal

pub tags-init : goal.tags-init
tags-init g c = ([], refl)

pub returns-in-Some : goal.returns-in-Some
returns-in-Some g c =
    joined (g.O.Objects.graph c.args.objects.now) c.args.first c.tags.id c.in-Some.end c.tags.invariant.0 c.tags.invariant.1
    (c.requires c.tags.id c.in-Some.end (sym c.in-Some.ensures))

pub tags-preserved : goal.tags-preserved
tags-preserved g c =
    let way = c.tags.invariant.0 in
    (way ++ c.tags.id ∷ [], leads_on eq (next_tag (g.O.Objects.graph c.args.objects.now)) way c.args.first c.tags.id c.in-Some-tag_target.target c.tags.invariant.1 (sym c.in-Some-tag_target.ensures))

pub returns-in-None : goal.returns-in-None
returns-in-None g c =
    here (g.O.Objects.graph c.args.objects.now) c.args.first c.tags.id c.tags.invariant.0 c.tags.invariant.1 (sym c.in-None.ensures)
