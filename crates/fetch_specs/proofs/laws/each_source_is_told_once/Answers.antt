use Rattle.fetch_specs.proofs.Places.{each_source, sources_in_order}
use Rattle.fetch_specs.proofs.laws.each_source_is_told_once.Goals as goal

pub returns-clause-ordered : goal.returns-clause-ordered
returns-clause-ordered c = λ specs names. sources_in_order specs names

pub returns-clause-told : goal.returns-clause-told
returns-clause-told c = λ specs names m. each_source specs names m
