use Rattle.std.proofs.Common.{◌≡◌, Ok, sym, ap, subst, ◌∙◌}
use Rattle.fetch_base.specs.Answers.{AnswersUnless}
use Rattle.fetch_refs.specs.Answers.{is_memory}
use Rattle.fetch_check.specs.Finding.{cause_in}
use Rattle.fetch_check.proofs.breaking.told.Goals as goal

pub returns-in-Ok : goal.returns-in-Ok
returns-in-Ok c = λ expected answers.
    let is : expected ≡ Ok c.in-Ok.id = subst (λ r. AnswersUnless is_memory expected r) c.in-Ok.is answers in c.unstored.ensures ∙ sym (ap (cause_in c.args.store.now.objects) is)
