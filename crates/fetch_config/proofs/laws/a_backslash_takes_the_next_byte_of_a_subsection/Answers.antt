use Rattle.fetch_config.proofs.Letters.{backslash_takes}
use Rattle.fetch_config.proofs.laws.a_backslash_takes_the_next_byte_of_a_subsection.Goals as goal

pub returns : goal.returns
returns c = backslash_takes
