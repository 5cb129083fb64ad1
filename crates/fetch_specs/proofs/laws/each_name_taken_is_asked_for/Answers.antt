use Rattle.fetch_specs.proofs.Covering.{each_asked_for}
use Rattle.fetch_specs.proofs.laws.each_name_taken_is_asked_for.Goals as goal

pub returns : goal.returns
returns c = λ specs spec name there takes. each_asked_for specs spec name there takes
