use Rattle.std.proofs.Common.{Ok, ap, refl}
use Rattle.fetch_check.proofs.LinesTold.{no_name, no_parts, no_target}
use Rattle.fetch_check.proofs.payloads.reference.Goals as goal

pub returns-in_default-clause-none : goal.returns-in_default-clause-none
returns-in_default-clause-none c = λ _. no_parts c.args.hash c.args.payload.now (c.in_default.ensures.none refl)

pub returns-in_default-2-clause-none : goal.returns-in_default-2-clause-none
returns-in_default-2-clause-none c =
    λ _. no_target c.args.hash c.args.payload.now c.in-Some.first.now c.in-Some.name.now c.in-Some.ensures.text c.in-Some.ensures.word (c.in_ok-target.ensures.none (ap (λ x. Ok x) c.in_default-2.is))

pub returns-in_default-3-clause-none : goal.returns-in_default-3-clause-none
returns-in_default-3-clause-none c =
    λ _. no_name c.args.hash c.args.payload.now c.in-Some.first.now c.in-Some.name.now c.in-Some.ensures.text c.in-Some.ensures.word (c.in_ok-name.ensures.none (ap (λ x. Ok x) c.in_default-3.is))
