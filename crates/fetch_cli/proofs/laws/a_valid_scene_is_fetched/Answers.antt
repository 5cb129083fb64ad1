use Rattle.fetch_cli.proofs.Reported.{valid_fetched}
use Rattle.fetch_cli.proofs.laws.a_valid_scene_is_fetched.Goals as goal

pub returns : goal.returns
returns c = valid_fetched
