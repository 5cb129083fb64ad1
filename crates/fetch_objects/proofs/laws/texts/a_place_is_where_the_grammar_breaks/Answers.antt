use Rattle.fetch_objects.proofs.Places.{breaks_at}
use Rattle.fetch_objects.proofs.laws.texts.a_place_is_where_the_grammar_breaks.Goals as goal

pub returns : goal.returns
returns c = breaks_at
