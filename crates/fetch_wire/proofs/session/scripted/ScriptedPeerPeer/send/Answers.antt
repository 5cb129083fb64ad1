use Rattle.std.proofs.Common.{[], refl, false}
use Rattle.fetch_wire.proofs.Pieces.{nothing_passes, hears}
use Rattle.fetch_wire.proofs.session.scripted.ScriptedPeerPeer.send.Goals as goal
use Rattle.fetch_wire.proofs.session.scripted.ScriptedPeerPeer.send.Goals.{in-Ok, in-Err}

pub returns-clause-talk : goal.returns-clause-talk
returns-clause-talk c = elim c.match-extend_from_slice.branch [
  | in-Ok w ↦ rw (← c.self.view_is, w.result-is) (hears false _ _ _ _ _ _ _ (rw w.in-Ok.is at c.extend_from_slice.ensures.items))
  | in-Err w ↦ rw (← c.self.view_is, w.result-is) ([], (c.args.bytes.now, refl), nothing_passes false _ _ _ _ _ _ _ _ (rw w.in-Err.is at c.extend_from_slice.ensures.items) refl refl)
]

pub returns-then-count-clause-talk : goal.returns-then-count-clause-talk
returns-then-count-clause-talk c = rw (← c.self.view_is) ([], (c.args.bytes.now, refl), nothing_passes false _ _ _ _ _ _ _ _ refl refl refl)
