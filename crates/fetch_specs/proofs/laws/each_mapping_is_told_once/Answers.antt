use Rattle.fetch_specs.proofs.Places.{each_mapping, mappings_in_order}
use Rattle.fetch_specs.proofs.laws.each_mapping_is_told_once.Goals as goal

pub returns-clause-ordered : goal.returns-clause-ordered
returns-clause-ordered c = λ specs names kind. mappings_in_order specs names kind

pub returns-clause-told : goal.returns-clause-told
returns-clause-told c = λ specs names kind m. each_mapping specs names kind m
