use Rattle.fetch_remote.proofs.Serving.{listed_is_valid, served_is_valid, dry_is_valid}
use Rattle.fetch_remote.proofs.laws.what_a_server_serves_is_valid.Goals as goal

pub returns-clause-listed : goal.returns-clause-listed
returns-clause-listed c = listed_is_valid

pub returns-clause-served : goal.returns-clause-served
returns-clause-served c = served_is_valid

pub returns-clause-dry : goal.returns-clause-dry
returns-clause-dry c = dry_is_valid
