use Rattle.std.proofs.Common.{◌∷◌, ◌++◌, [], length, map, take, refl, ap}
use Rattle.fetch_serve.specs.declared.peer.Said.{Said}
use Rattle.fetch_serve.proofs.Peering.{copied_front, counts_on, given_on, one_more, received_as, received_once_as, told_at}
use Rattle.fetch_serve.proofs.peer.ServerPeerPeer.receive.Goals as goal

pub invariant_of-self : goal.invariant_of-self
invariant_of-self c =
    let i = c.self.inside in
    let copied = copied_front i.server.outgoing c.copy_from-count.new.into c.copy_from-count.result (rw c.outgoing.ensures at c.copy_from-count.ensures.copied) in
    given_on i.server c.sent.new.self i.heard.values c.self.invariant (take c.copy_from-count.result c.copy_from-count.new.into) c.copy_from-count.result copied c.sent.ensures

pub returns-clause-talk : goal.returns-clause-talk
returns-clause-talk c =
    let i = c.self.inside in
    let copied = copied_front i.server.outgoing c.copy_from-count.new.into c.copy_from-count.result (rw c.outgoing.ensures at c.copy_from-count.ensures.copied) in
    let count = rw c.outgoing.ensures at c.copy_from-count.ensures.count in
    let said : Said = record { heard = c.again.result; left = length c.outgoing-left.result.now } in
    rw (← c.self.view_is, c.and.ensures)
    (received_as i.server c.sent.new.self i.heard.values c.self.invariant (take c.copy_from-count.result c.copy_from-count.new.into) c.copy_from-count.result copied c.sent.ensures
    (map (told_at i.server.served) i.receives.values) i.failed (map (told_at c.sent.new.self.served) (i.receives.values ++ said ∷ []))
    (one_more i.server c.sent.new.self i.heard.values c.copy_from-count.result c.sent.ensures i.receives.values said c.again.ensures (ap length c.outgoing-left.ensures)) c.copy_from-count.new.into refl count)

pub returns-clause-receives : goal.returns-clause-receives
returns-clause-receives c =
    let i = c.self.inside in
    let copied = copied_front i.server.outgoing c.copy_from-count.new.into c.copy_from-count.result (rw c.outgoing.ensures at c.copy_from-count.ensures.copied) in
    let said : Said = record { heard = c.again.result; left = length c.outgoing-left.result.now } in
    rw (← c.self.view_is, c.and.ensures)
    (received_once_as i.server c.sent.new.self i.heard.values c.self.invariant (take c.copy_from-count.result c.copy_from-count.new.into) c.copy_from-count.result copied c.sent.ensures
    (map (told_at i.server.served) i.receives.values) i.failed (map (told_at c.sent.new.self.served) (i.receives.values ++ said ∷ []))
    (one_more i.server c.sent.new.self i.heard.values c.copy_from-count.result c.sent.ensures i.receives.values said c.again.ensures (ap length c.outgoing-left.ensures)))

pub returns-clause-counts : goal.returns-clause-counts
returns-clause-counts c =
    let i = c.self.inside in
    let copied = copied_front i.server.outgoing c.copy_from-count.new.into c.copy_from-count.result (rw c.outgoing.ensures at c.copy_from-count.ensures.copied) in
    rw (← c.self.view_is)
    (counts_on i.server c.sent.new.self i.heard.values c.self.invariant (take c.copy_from-count.result c.copy_from-count.new.into) c.copy_from-count.result copied c.sent.ensures
    (map (told_at i.server.served) i.receives.values) i.failed)
