use Rattle.fetch_create.proofs.Created.{taken}
use Rattle.fetch_init.proofs.laws.a_new_configuration_takes_any_version.Goals as goal

pub returns : goal.returns
returns c = taken
