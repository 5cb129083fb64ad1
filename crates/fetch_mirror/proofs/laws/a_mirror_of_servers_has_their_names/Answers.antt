use Rattle.fetch_mirror.proofs.Copied.{copied_names}
use Rattle.fetch_mirror.proofs.laws.a_mirror_of_servers_has_their_names.Goals as goal

pub returns : goal.returns
returns c = copied_names
