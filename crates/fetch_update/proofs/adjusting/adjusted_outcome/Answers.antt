use Rattle.std.proofs.Common.{ap, ◌∙◌, subst, IfOk, ◌≡◌}
use Rattle.fetch_update.specs.Outcomes.{Verdicts, edits_of, outcome_in}
use Rattle.fetch_update.proofs.Lists.{is_named}
use Rattle.fetch_update.proofs.adjusting.adjusted_outcome.Goals as goal

pub returns : goal.returns
returns c =
    subst (λ (vs : Verdicts). IfOk c.number.result (λ outcome. outcome ≡ outcome_in vs))
    (c.in_ok-adjusted_verdicts.ensures (edits_of c.args.verdicts.items) (λ name. c.in_ok-names.ensures name ∙ ap (is_named name) c.as_slice.ensures.value)) c.number.ensures
