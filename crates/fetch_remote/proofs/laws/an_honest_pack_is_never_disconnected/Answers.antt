use Rattle.fetch_remote.proofs.Kept.{honest_connects}
use Rattle.fetch_remote.proofs.laws.an_honest_pack_is_never_disconnected.Goals as goal

pub returns : goal.returns
returns c = honest_connects
