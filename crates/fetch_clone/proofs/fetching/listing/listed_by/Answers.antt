use Rattle.std.proofs.Common.{◌≡◌, refl}
use Rattle.fetch_conversation.specs.declared.prepare.Error.TheVariants as prepare
use Rattle.fetch_conversation.specs.declared.ref_map.Error.TheVariants as ref_map
use Rattle.fetch_clone.proofs.Heeded.{heeded-of, says-of}
use Rattle.fetch_clone.proofs.Returned.{lost_rose}
use Rattle.fetch_clone.proofs.fetching.listing.listed_by.Goals as goal

pub returns-in-Err-clause-broke : goal.returns-in-Err-clause-broke
returns-in-Err-clause-broke g c = (c.listed_for.new.peer, c.in-Err.ensures.refused, c.take_back.ensures.taken)

pub returns-in-Ok-clause-quiet : goal.returns-in-Ok-clause-quiet
returns-in-Ok-clause-quiet g c none = c.in-Ok.ensures.interrupt.quiet refl

pub returns-in-Ok-clause-noes : goal.returns-in-Ok-clause-noes
returns-in-Ok-clause-noes g c none = says-of _ _ _ _ _ _ _ refl c.in-Ok.ensures.interrupt

pub returns-in-Err-clause-noes : goal.returns-in-Err-clause-noes
returns-in-Err-clause-noes g c none = says-of _ _ _ _ _ _ _ none c.in-Err.ensures.interrupt

pub returns-in-Ok-clause-heeded : goal.returns-in-Ok-clause-heeded
returns-in-Ok-clause-heeded g c = heeded-of _ _ _ _ _ _ _ refl c.in-Ok.ensures.interrupt

pub returns-in-Err-clause-transport : goal.returns-in-Err-clause-transport
returns-in-Err-clause-transport g c is =
    let e : c.in-Err.e ≡ prepare.RefMap ref_map.Transport = cc in
    rw c.take_back.ensures.lost (lost_rose (g.C.Peer.Peer.faults c.args.peer) (g.C.Peer.Peer.faults c.listed_for.new.peer) (g.C.Connect.lost c.args.maker.now) (c.in-Err.ensures.peer.cause (rw e refl)))

pub returns-in-Err-clause-interrupted : goal.returns-in-Err-clause-interrupted
returns-in-Err-clause-interrupted g c is =
    let e : c.in-Err.e ≡ prepare.RefMap ref_map.Interrupted = cc in
    c.in-Err.ensures.interrupt.cause (rw e refl)

pub returns-in-Err-clause-quiet : goal.returns-in-Err-clause-quiet
returns-in-Err-clause-quiet g c none = c.in-Err.ensures.interrupt.quiet none
