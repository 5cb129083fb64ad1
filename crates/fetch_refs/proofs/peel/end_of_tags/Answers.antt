use Rattle.std.proofs.Common.{[], ◌∷◌, ◌++◌, refl, ap, sym, ◌∙◌}
use Rattle.std.specs.Prelude.{is_some, not}
use Rattle.fetch_refs.specs.Leading.{next_tag}
use Rattle.fetch_refs.proofs.TagSteps.{ends_missing}
use Rattle.fetch_refs.proofs.TagWays.{eq, ended_at}
use Rattle.fetch_refs.proofs.Walks.{leads_on}
use Rattle.fetch_refs.proofs.peel.end_of_tags.Goals as goal

pub tags-init : goal.tags-init
tags-init g c = ([], refl)

pub tags-preserved : goal.tags-preserved
tags-preserved g c =
    let way = c.tags.invariant.0 in
    (way ++ c.tags.id ∷ [], leads_on eq (next_tag (g.O.Objects.graph c.args.objects.now)) way c.args.first c.tags.id c.in-Some.target c.tags.invariant.1 (sym c.in-Some.ensures))

pub returns-in-None : goal.returns-in-None
returns-in-None g c =
    c.if_stored.ensures ∙ sym (ended_at (g.O.Objects.graph c.args.objects.now) c.args.first c.tags.invariant.0 c.tags.id c.tags.invariant.1 (sym c.in-None.ensures))

pub returns-then-is_none : goal.returns-then-is_none
returns-then-is_none g c =
    sym (ends_missing (g.O.Objects.graph c.args.objects.now) c.args.first c.tags.invariant.0 c.tags.id (λ n. n.kind) c.tags.invariant.1
    (ap is_some (sym c.kind_of.ensures) ∙ c.is_none.ensures ∙ ap not c.if-is_none.true))
