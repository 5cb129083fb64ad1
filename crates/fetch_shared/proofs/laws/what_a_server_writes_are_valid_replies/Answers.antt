use Rattle.fetch_shared.proofs.Written.{lists, lists_alone, serves, serves_dry}
use Rattle.fetch_shared.proofs.laws.what_a_server_writes_are_valid_replies.Goals as goal

pub returns-clause-listing : goal.returns-clause-listing
returns-clause-listing c = lists

pub returns-clause-listed : goal.returns-clause-listed
returns-clause-listed c = lists_alone

pub returns-clause-served : goal.returns-clause-served
returns-clause-served c = serves

pub returns-clause-dry : goal.returns-clause-dry
returns-clause-dry c = serves_dry
