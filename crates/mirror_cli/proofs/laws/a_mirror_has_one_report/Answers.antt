use Rattle.mirror_cli.proofs.Reports.{one_report}
use Rattle.mirror_cli.proofs.laws.a_mirror_has_one_report.Goals as goal

pub returns : goal.returns
returns c = one_report
