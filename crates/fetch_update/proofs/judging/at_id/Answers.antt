use Rattle.std.proofs.Common.{sym, ap, ◌∙◌, subst, Result}
use Rattle.fetch_base.proofs.Orders.{eq_is}
use Rattle.fetch_update.specs.declared.update.Error.{Error}
use Rattle.fetch_update.specs.declared.verdict.Verdict.{Verdict}
use Rattle.fetch_base.specs.Answers.{AnswersUnless}
use Rattle.fetch_update.specs.Policy.{is_memory, policy_of, place_in_code, value_in_code, no_update, guessed, fast_forward}
use Rattle.fetch_update.proofs.Judged.{same_at, guessed_at, ahead_at}
use Rattle.fetch_update.proofs.judging.at_id.Goals as goal

pub returns-then-eq : goal.returns-then-eq
unfolding no_update
returns-then-eq g c =
    subst (λ (r : Result Verdict Error). AnswersUnless is_memory r c.write.result)
    (sym (same_at (policy_of (g.O.Objects.graph c.args.objects.now) c.args.judge.now) (place_in_code c.args.place) c.args.local c.in-Id.remote (value_in_code c.args.place.new_target) (ap value_in_code c.in-Id.is) (sym (eq_is c.args.local c.in-Id.remote) ∙ sym c.eq.ensures ∙ c.if-eq.true)))
    c.write.ensures

pub returns-then-judge : goal.returns-then-judge
unfolding guessed
returns-then-judge g c =
    subst (λ (r : Result Verdict Error). AnswersUnless is_memory r c.write-then-judge.result)
    (sym (guessed_at (policy_of (g.O.Objects.graph c.args.objects.now) c.args.judge.now) (place_in_code c.args.place) c.args.local c.in-Id.remote (value_in_code c.args.place.new_target) (ap value_in_code c.in-Id.is) (sym (eq_is c.args.local c.in-Id.remote) ∙ sym c.eq.ensures ∙ c.if-eq.false) (sym c.is_tag.ensures ∙ c.if-is_tag.false) c.if-judge.true))
    c.write-then-judge.ensures

pub returns-then-branch : goal.returns-then-branch
unfolding fast_forward
returns-then-branch g c =
    subst (λ (r : Result Verdict Error). AnswersUnless is_memory r c.write-then-branch.result)
    (sym (ahead_at (policy_of (g.O.Objects.graph c.args.objects.now) c.args.judge.now) (place_in_code c.args.place) c.args.local c.in-Id.remote (value_in_code c.args.place.new_target) (ap value_in_code c.in-Id.is) (sym (eq_is c.args.local c.in-Id.remote) ∙ sym c.eq.ensures ∙ c.if-eq.false) (sym c.is_tag.ensures ∙ c.if-is_tag.false) c.if-judge.false
    (sym c.is_stored.ensures ∙ c.if-not-is_stored.false) (sym c.are_commits.ensures ∙ c.if-not-are_commits.false) (sym c.in_ok-is_ahead.ensures ∙ c.if-branch.true)))
    c.write-then-branch.ensures
