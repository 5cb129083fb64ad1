use Rattle.fetch_specs.proofs.FullNames.{full_place_is_longest}
use Rattle.fetch_specs.proofs.laws.full_name_place_is_of_the_longest_beginning.Goals as goal

pub returns : goal.returns
returns c = λ text. full_place_is_longest text
