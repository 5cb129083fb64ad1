use Rattle.fetch_cli.proofs.Summed.{status_of_both}
use Rattle.fetch_cli.proofs.laws.a_summary_has_the_status_of_its_report.Goals as goal

pub returns : goal.returns
returns c = status_of_both
