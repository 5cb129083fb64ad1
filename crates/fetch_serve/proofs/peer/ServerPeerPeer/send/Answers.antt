use Rattle.std.proofs.Common.{map, ap, ◌∙◌, arith}
use Rattle.fetch_serve.specs.Peers.{count_after}
use Rattle.fetch_serve.specs.Served.{Data}
use Rattle.fetch_serve.proofs.Peering.{counts_told, makes_told, rose_told, sends_told, sent, told_at}
use Rattle.fetch_serve.proofs.peer.ServerPeerPeer.send.Goals as goal

pub invariant_of-self : goal.invariant_of-self
invariant_of-self c =
    let i = c.self.inside in
    rw c.with_each.ensures (sent i.server c.hear-count.new.server i.heard.values c.self.invariant c.args.bytes.now c.hear-count.result.0 c.hear-count.result.1 c.hear-count.ensures.hears).said

pub returns-clause-talk : goal.returns-clause-talk
returns-clause-talk c =
    let i = c.self.inside in
    rw (← c.self.view_is, c.with_each.ensures)
    (sends_told i.server c.hear-count.new.server i.heard.values c.self.invariant c.args.bytes.now c.hear-count.result.0 c.hear-count.result.1 c.hear-count.ensures.hears
    (λ (d : Data). map (told_at d) i.receives.values) i.failed c.counted-self-inside.result)

pub returns-clause-cause : goal.returns-clause-cause
returns-clause-cause c = λ failed. (let i = c.self.inside in
    rw (← c.self.view_is, c.with_each.ensures)
    (rose_told i.server c.hear-count.new.server i.heard.values c.self.invariant c.args.bytes.now c.hear-count.result.0 c.hear-count.result.1 c.hear-count.ensures.hears
    (λ (d : Data). map (told_at d) i.receives.values) i.failed c.counted-self-inside.result failed (omega (arith, c.counted-self-inside.ensures.count ∙ ap (count_after i.failed) failed))))

pub returns-clause-counts : goal.returns-clause-counts
returns-clause-counts c =
    let i = c.self.inside in
    rw (← c.self.view_is, c.with_each.ensures)
    (counts_told i.server c.hear-count.new.server i.heard.values c.self.invariant c.args.bytes.now c.hear-count.result.0 c.hear-count.result.1 c.hear-count.ensures.hears
    (λ (d : Data). map (told_at d) i.receives.values) i.failed c.counted-self-inside.result c.counted-self-inside.ensures.later)

pub returns-clause-receives : goal.returns-clause-receives
returns-clause-receives c =
    let i = c.self.inside in
    rw (← c.self.view_is)
    (makes_told i.server c.hear-count.new.server i.heard.values c.self.invariant c.args.bytes.now c.hear-count.result.0 c.hear-count.result.1 c.hear-count.ensures.hears
    (λ (d : Data). map (told_at d) i.receives.values) i.failed c.counted-self-inside.result)
