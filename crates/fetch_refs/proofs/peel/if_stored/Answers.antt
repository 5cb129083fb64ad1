use Rattle.std.proofs.Common.{ap, sym, ◌∙◌}
use Rattle.std.specs.Prelude.{is_some, not}
use Rattle.std.specs.FinMap.{get}
use Rattle.fetch_refs.proofs.TagSteps.{is_stored, not_stored}
use Rattle.fetch_refs.proofs.peel.if_stored.Goals as goal

pub returns-then-is_none : goal.returns-then-is_none
returns-then-is_none g c =
    sym (not_stored c.args.id (λ n. n.kind) (get (g.O.Objects.graph c.args.objects.now) c.args.id) (ap is_some (sym c.kind_of.ensures) ∙ c.is_none.ensures ∙ ap not c.if-is_none.true))

pub returns : goal.returns
returns g c =
    sym (is_stored c.args.id (λ n. n.kind) (get (g.O.Objects.graph c.args.objects.now) c.args.id) (ap is_some (sym c.kind_of.ensures) ∙ c.is_none.ensures ∙ ap not c.if-is_none.false))
