use Rattle.mirror_cli.proofs.Reports.{told_whole}
use Rattle.mirror_cli.proofs.laws.a_mirror_is_told_by_what_it_has.Goals as goal

pub returns : goal.returns
returns c = told_whole
