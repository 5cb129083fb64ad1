use Rattle.fetch_pack.proofs.Once as once
use Rattle.fetch_pack.proofs.reading.keeps_each_once.Goals as goal

pub returns : goal.returns
returns c = once.keeps_each_once
