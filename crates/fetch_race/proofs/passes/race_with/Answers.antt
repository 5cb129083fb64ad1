use Rattle.std.proofs.Common.{rules, refl}
use Rattle.std.specs.Prelude.{slice_get}
use Rattle.fetch_store.specs.Missing.{unclosed}
use Rattle.fetch_journal.specs.Machine.{held}
use Rattle.fetch_race.proofs.Unraced.{shared, shared_ok, refused}
use Rattle.fetch_race.proofs.passes.race_with.Goals as goal

pub returns-in_ok-race_in-in-Ok-clause-closed : goal.returns-in_ok-race_in-in-Ok-clause-closed
returns-in_ok-race_in-in-Ok-clause-closed g c = shared_ok (slice_get (unclosed (held c.args.repo)) 0) _ _ c.opened.result c.in-Ok.is c.opened.ensures.closed

pub returns-in_err-race_in-in-Ok-clause-closed : goal.returns-in_err-race_in-in-Ok-clause-closed
returns-in_err-race_in-in-Ok-clause-closed g c = shared (slice_get (unclosed (held c.args.repo)) 0) _ c.opened.result _ c.in-Ok.is c.opened.ensures.closed (search rules)

pub returns-in-Err-clause-closed : goal.returns-in-Err-clause-closed
returns-in-Err-clause-closed g c = refused (slice_get (unclosed (held c.args.repo)) 0) c.in-Err.e c.opened.result _ c.in-Err.is refl c.opened.ensures.closed
