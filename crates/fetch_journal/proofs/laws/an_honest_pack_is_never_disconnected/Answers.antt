use Rattle.fetch_journal.proofs.Connecting.{connected, connected_allowed, never_disconnected}
use Rattle.fetch_journal.proofs.laws.an_honest_pack_is_never_disconnected.Goals as goal

pub returns-clause-never : goal.returns-clause-never
returns-clause-never c s before between pass wants haves pack link sound fits fit honest is = never_disconnected s before between wants haves pack sound fits fit honest link is

pub returns-clause-connected : goal.returns-clause-connected
returns-clause-connected c s before between wants haves pack sound fits fit honest none = connected s before between wants haves pack sound fits fit honest none

pub returns-clause-allowed : goal.returns-clause-allowed
returns-clause-allowed c s before between pass wants haves pack sound fits fit honest none = connected_allowed s before between wants haves pack sound fits fit honest none
