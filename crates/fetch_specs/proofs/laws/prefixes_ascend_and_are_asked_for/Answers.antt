use Rattle.fetch_specs.proofs.Ascending.{is_listing}
use Rattle.fetch_specs.proofs.laws.prefixes_ascend_and_are_asked_for.Goals as goal

pub returns : goal.returns
returns c = λ specs. is_listing specs
