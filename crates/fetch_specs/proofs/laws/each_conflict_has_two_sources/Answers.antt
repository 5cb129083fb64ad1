use Rattle.fetch_specs.proofs.Doubles.{each_conflict}
use Rattle.fetch_specs.proofs.laws.each_conflict_has_two_sources.Goals as goal

pub returns : goal.returns
returns c = λ matches conflict. each_conflict matches conflict
