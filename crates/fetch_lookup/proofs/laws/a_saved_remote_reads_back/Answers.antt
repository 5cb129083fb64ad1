use Rattle.fetch_lookup.proofs.ReadBack.{reads-back}
use Rattle.fetch_lookup.proofs.laws.a_saved_remote_reads_back.Goals as goal

pub returns : goal.returns
returns c = reads-back
