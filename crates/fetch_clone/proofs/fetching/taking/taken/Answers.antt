use Rattle.std.proofs.Common.{◌≤◌}
use Rattle.fetch_clone.specs.Counted.{meters, peer_meters, tree_meters}
use Rattle.fetch_base.specs.Faults.{Counts, Counts-none}
use Rattle.fetch_clone.proofs.Answered.{is-taken, not-taken, taken-counted}
use Rattle.fetch_clone.proofs.Counted.{counts-by}
use Rattle.fetch_clone.proofs.Returned.{lost_later, lost_rose}
use Rattle.fetch_clone.proofs.fetching.taking.taken.Goals as goal

pub returns-clause-taken : goal.returns-clause-taken
returns-clause-taken g c =
    is-taken _ _ _ _ _ (g.F.Files.may_fail c.args.files.now) _ _ c.args.draft.now c.args.remote.now c.args.prepared c.args.repo.now c.received-answer.new.repo c.received-answer.new.peer _
    c.take_back.ensures.taken _ _ _ c.received-answer.result c.received-answer.ensures.questions c.received-answer.ensures.received

pub returns-clause-refused : goal.returns-clause-refused
returns-clause-refused g c =
    not-taken _ _ _ _ _ _ _ _ c.args.draft.now c.args.remote.now c.args.prepared c.args.repo.now c.received-answer.new.repo c.received-answer.new.peer _
    c.take_back.ensures.taken c.received-answer.result c.received-answer.ensures.refused

pub returns-clause-blames : goal.returns-clause-blames
returns-clause-blames g c =
    let was_trees = tree_meters (g.W.Worktrees.listing c.args.worktrees.now) (g.W.Worktrees.open_repo c.args.worktrees.now) (g.W.Worktrees.follow_symref c.args.worktrees.now) in
    let is_trees = tree_meters (g.W.Worktrees.listing c.received-answer.new.worktrees) (g.W.Worktrees.open_repo c.received-answer.new.worktrees) (g.W.Worktrees.follow_symref c.received-answer.new.worktrees) in
    let was = meters (g.C.Connect.faults c.args.maker.now) (g.C.Connect.lost c.args.maker.now) (g.I.Interrupt.yes c.args.interrupt.now) (g.F.Files.faults c.args.files.now) was_trees in
    let is = meters (g.C.Connect.faults c.take_back.new.self) (g.C.Connect.lost c.take_back.new.self) (g.I.Interrupt.yes c.received-answer.new.interrupt) (g.F.Files.faults c.received-answer.new.files) is_trees in
    let here = peer_meters (g.C.Peer.Peer.faults c.args.peer) (g.I.Interrupt.yes c.args.interrupt.now) (g.F.Files.faults c.args.files.now) was_trees in
    let left = peer_meters (g.C.Peer.Peer.faults c.received-answer.new.peer) (g.I.Interrupt.yes c.received-answer.new.interrupt) (g.F.Files.faults c.received-answer.new.files) is_trees in
    let counted = taken-counted was is here left c.args.draft.now.choices.wanted c.args.prepared.listed.ref_map c.received-answer.result c.received-answer.ensures.kind
    (λ h. rw c.take_back.ensures.lost (lost_rose (g.C.Peer.Peer.faults c.args.peer) (g.C.Peer.Peer.faults c.received-answer.new.peer) (g.C.Connect.lost c.args.maker.now) h)) (λ h. h) (λ h. h) (λ h. h) (λ h. h) (λ h. h) c.received-answer.ensures.counted in
    let later = c.received-answer.ensures.later in
    let made : Counts (g.C.Connect.faults c.args.maker.now) (g.C.Connect.faults c.take_back.new.self) = rw c.take_back.ensures.faults (Counts-none _) in
    let lost : (g.C.Connect.lost c.args.maker.now).count ≤ (g.C.Connect.lost c.take_back.new.self).count = rw c.take_back.ensures.lost (lost_later (g.C.Peer.Peer.faults c.received-answer.new.peer) (g.C.Connect.lost c.args.maker.now)) in
    record {
      counted = counts-by was is c.received-answer.result c.received-answer.ensures.uninterrupted counted;
      later = record { made = made; lost = lost; yes = later.yes; files = later.files; listing = later.listing; open_repo = later.open_repo; follow_symref = later.follow_symref };
    }
