use Rattle.std.proofs.Common.{ap, Some}
use Rattle.fetch_lookup.proofs.WellFormed.{passes, fails}
use Rattle.fetch_lookup.proofs.utf8.characters.Goals as goal

pub returns-in-Ok : goal.returns-in-Ok
returns-in-Ok c = rw (passes c.args.text.now c.in-Ok.ensures.cases.1) (ap Some c.in-Ok.ensures.cases.0)

pub returns-in-Err : goal.returns-in-Err
returns-in-Err c = rw (fails c.args.text.now c.in-Err.ensures.cases.0)
