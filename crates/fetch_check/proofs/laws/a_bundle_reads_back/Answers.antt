use Rattle.fetch_check.proofs.ReadBack.{reads_back}
use Rattle.fetch_check.proofs.laws.a_bundle_reads_back.Goals as goal

pub returns : goal.returns
returns c = reads_back
