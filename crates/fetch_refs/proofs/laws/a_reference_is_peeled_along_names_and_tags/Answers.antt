use Rattle.fetch_refs.proofs.NameWays.{peeled_to}
use Rattle.fetch_refs.proofs.laws.a_reference_is_peeled_along_names_and_tags.Goals as goal

pub returns : goal.returns
returns c = peeled_to
