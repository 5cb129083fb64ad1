use Rattle.std.proofs.Common.{Ok, ap, sym}
use Rattle.fetch_check.proofs.LinesTold.{no_symbolic}
use Rattle.fetch_check.proofs.payloads.target.Goals as goal

pub returns-in-None-2-clause-none : goal.returns-in-None-2-clause-none
returns-in-None-2-clause-none c = λ _. no_symbolic c.args.hash c.args.text.now c.in-Some.name.now (sym c.in-Some.ensures) (c.in_ok-name-in-Some.ensures.none (ap (λ x. Ok x) c.in-None-2.is))
