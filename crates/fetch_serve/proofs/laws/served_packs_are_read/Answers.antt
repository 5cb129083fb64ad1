use Rattle.fetch_serve.proofs.Answered.{pack_read}
use Rattle.fetch_serve.proofs.laws.served_packs_are_read.Goals as goal

pub returns : goal.returns
returns c = pack_read
