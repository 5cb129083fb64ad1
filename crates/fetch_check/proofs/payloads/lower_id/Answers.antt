use Rattle.fetch_refs.proofs.FirstLines.{with_capital, without_capital}
use Rattle.fetch_check.proofs.payloads.lower_id.Goals as goal

pub returns-then-has_capital-clause-none : goal.returns-then-has_capital-clause-none
returns-then-has_capital-clause-none c = λ _ id written spelled. with_capital c.args.digits.now c.has_capital.result c.has_capital.ensures c.if-has_capital.true id written

pub returns-clause-written : goal.returns-clause-written
returns-clause-written c = without_capital c.args.hash c.args.digits.now c.has_capital.result c.in_hex.result c.has_capital.ensures c.if-has_capital.false c.in_hex.ensures
