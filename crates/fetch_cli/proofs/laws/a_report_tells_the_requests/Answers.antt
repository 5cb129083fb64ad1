use Rattle.fetch_cli.proofs.Requested.{requests_heard}
use Rattle.fetch_cli.proofs.laws.a_report_tells_the_requests.Goals as goal

pub returns : goal.returns
returns c = requests_heard
