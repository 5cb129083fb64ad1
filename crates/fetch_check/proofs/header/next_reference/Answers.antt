use Rattle.std.proofs.Common.{Ok, ap, sym, ◌∙◌}
use Rattle.fetch_check.proofs.Above.{reference_more}
use Rattle.fetch_check.proofs.Found.{none_more, not_above}
use Rattle.fetch_check.proofs.header.next_reference.Goals as goal

pub returns-in_default-clause-none : goal.returns-in_default-clause-none
returns-in_default-clause-none c = λ _. none_more c.args.bytes.now c.args.place c.args.hash c.args.before.now (c.in_ok-found.ensures.none (ap (λ x. Ok x) c.in_default.is))

pub returns-then-is_name_above-clause-may : goal.returns-then-is_name_above-clause-may
returns-then-is_name_above-clause-may c =
    reference_more c.args.hash c.args.before.now c.in-Some.reference c.requires.before (rw c.in-Some.is at c.in_ok-found.ensures.told) (sym c.is_name_above.ensures ∙ c.if-is_name_above.true)

pub returns-else-is_name_above-clause-none : goal.returns-else-is_name_above-clause-none
returns-else-is_name_above-clause-none c =
    λ _. not_above c.args.bytes.now c.args.place c.in-Some.next c.args.hash c.args.before.now c.in-Some.reference (rw c.in-Some.is at c.in_ok-found.ensures.line) (rw c.in-Some.is at c.in_ok-found.ensures.told)
    (sym c.is_name_above.ensures ∙ c.if-is_name_above.false)
