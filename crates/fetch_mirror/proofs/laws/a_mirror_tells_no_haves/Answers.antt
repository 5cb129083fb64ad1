use Rattle.fetch_mirror.proofs.NoopRead.{is_read}
use Rattle.fetch_mirror.proofs.laws.a_mirror_tells_no_haves.Goals as goal

pub returns : goal.returns
returns c = is_read
