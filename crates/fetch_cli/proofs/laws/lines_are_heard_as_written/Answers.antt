use Rattle.fetch_cli.proofs.Sent.{heard_as_sent}
use Rattle.fetch_cli.proofs.laws.lines_are_heard_as_written.Goals as goal

pub returns : goal.returns
returns c = heard_as_sent
