use Rattle.fetch_shared.proofs.Saw.{has_planned}
use Rattle.fetch_shared.proofs.exchange.planned.Goals as goal

pub returns-in-Ok-clause-planned : goal.returns-in-Ok-clause-planned
returns-in-Ok-clause-planned g c =
    let s = c.plan-pass.ensures in
    has_planned _ _ c.args.ref_map.now c.args.tags c.args.shallow.now c.in-Ok.plan s.back (rw c.in-Ok.is at s.turn)
