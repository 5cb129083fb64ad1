use Rattle.fetch_serve.proofs.Growing.{one_by_one}
use Rattle.fetch_serve.proofs.laws.replies_come_one_by_one.Goals as goal

pub returns : goal.returns
returns c = one_by_one
