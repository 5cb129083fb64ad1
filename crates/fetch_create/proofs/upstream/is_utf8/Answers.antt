use Rattle.std.proofs.Common.{sym}
use Rattle.fetch_lookup.proofs.WellFormed.{fails, passes}
use Rattle.fetch_create.proofs.upstream.is_utf8.Goals as goal

pub returns-in-Ok : goal.returns-in-Ok
returns-in-Ok c = sym (passes c.args.text.now c.in-Ok.ensures.cases.1)

pub returns-in-Err : goal.returns-in-Err
returns-in-Err c = sym (fails c.args.text.now c.in-Err.ensures.cases.0)
