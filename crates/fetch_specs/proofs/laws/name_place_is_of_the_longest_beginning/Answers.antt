use Rattle.fetch_specs.proofs.Fronts.{place_is_longest}
use Rattle.fetch_specs.proofs.laws.name_place_is_of_the_longest_beginning.Goals as goal

pub returns : goal.returns
returns c = λ star text. place_is_longest star text
