use Rattle.mirror_cli.proofs.Mirrors.{workers_told}
use Rattle.mirror_cli.proofs.laws.the_count_of_workers_is_told_first.Goals as goal

pub returns : goal.returns
returns c = λ workers scene status text many told. workers_told workers scene status text many told
