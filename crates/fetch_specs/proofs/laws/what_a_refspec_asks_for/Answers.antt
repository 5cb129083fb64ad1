use Rattle.fetch_specs.proofs.Stars.{starred, of_id, of_exclusion}
use Rattle.fetch_specs.proofs.laws.what_a_refspec_asks_for.Goals as goal

pub returns-clause-exclusion : goal.returns-clause-exclusion
returns-clause-exclusion c = λ spec is. of_exclusion spec is

pub returns-clause-id : goal.returns-clause-id
returns-clause-id c = λ source is. of_id source is

pub returns-clause-star : goal.returns-clause-star
returns-clause-star c = λ source text star any. starred source text star any
