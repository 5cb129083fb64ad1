use Rattle.fetch_refs.proofs.PackedAnswers.{some_answer}
use Rattle.fetch_refs.proofs.PackedReads.{one_answer}
use Rattle.fetch_refs.proofs.laws.a_packed_text_has_one_answer.Goals as goal

pub returns-clause-some : goal.returns-clause-some
returns-clause-some c = some_answer

pub returns-clause-one : goal.returns-clause-one
returns-clause-one c = one_answer
