use Rattle.fetch_shared.proofs.PackTaken.{has_looked}
use Rattle.fetch_shared.proofs.pack_taken.look.Goals as goal

pub returns-in-Ok-clause-looked : goal.returns-in-Ok-clause-looked
returns-in-Ok-clause-looked g c =
    let s = c.snapshot-pass.ensures in
    has_looked _ _ c.args.negotiate c.in-Ok.taken s.back (rw c.in-Ok.is at s.turn) s.none
