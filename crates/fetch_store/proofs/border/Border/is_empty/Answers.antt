use Rattle.std.proofs.Common.{eq-eqb, sym, ap, ◌∙◌}
use Rattle.std.proofs.lemmas.Bool.{eqb-true}
use Rattle.fetch_store.specs.Borders.{set_of}
use Rattle.fetch_store.proofs.Borders.{no_ids, none_left}
use Rattle.fetch_store.proofs.border.Border.is_empty.Goals as goal

pub returns : goal.returns
returns c = (
  λ h. sym c.commits.ensures.set ∙ ap set_of (none_left c.commits.result.now (eqb-true _ _ (sym c.is_empty.ensures ∙ h))),
  λ h. c.is_empty.ensures ∙ eq-eqb _ _ (no_ids c.commits.result.now (c.commits.ensures.set ∙ h)),
)
