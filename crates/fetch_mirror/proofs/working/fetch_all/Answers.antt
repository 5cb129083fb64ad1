use Rattle.std.proofs.Common.{rules, []}
use Rattle.fetch_race.specs.Racing.{Race}
use Rattle.fetch_mirror.specs.Lent.{owning}
use Rattle.fetch_mirror.proofs.EachPair.{at_each_place}
use Rattle.fetch_mirror.proofs.Lent.{RunsByPass, as_owned}
use Rattle.fetch_mirror.proofs.working.fetch_all.Goals as goal

pub returns-clause-ran : goal.returns-clause-ran
returns-clause-ran g c =
    let race : Race g.row.P.Denot = record { answers = g.P.Peer.answers; told = g.P.Peer.told; faults = g.P.Peer.faults; trees = []; opening = c.args.shared.now.opening } in
    let h = c.for_each_pair_mut.ensures in
    let ran = at_each_place _ _ _ _ _ _ h (λ old peer new peer_now. RunsByPass race (owning old peer) (owning new peer_now)) (λ p q p' q' call. search rules) in
    as_owned race c.args.job_runs.now c.for_each_pair_mut.new.left c.args.peers.now c.for_each_pair_mut.new.right c.requires.same h.left_count h.right_count ran
