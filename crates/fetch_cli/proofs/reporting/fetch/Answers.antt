use Rattle.std.proofs.Common.{refl, ◌∙◌}
use Rattle.std.specs.List.{concat}
use Rattle.fetch_cli.proofs.Fetching.{fetched, no_fault, in_nothing}
use Rattle.fetch_cli.proofs.reporting.fetch.Goals as goal

pub returns-clause-fetched : goal.returns-clause-fetched
returns-clause-fetched g c =
    let told = rw c.into_vec.ensures at c.new-peer.ensures.told in
    let sure = rw c.new.ensures.items at c.new-peer.ensures.faults in
    let calm = rw c.new-2.ensures.items at c.new-interrupt.ensures.count in
    let trees = rw c.into_vec-2.ensures at c.new-worktrees.ensures.told in
    let never = rw c.new-3.ensures.items at c.new-files.ensures.may_fail in
    let nothing = c.new-files.ensures.told in
    let f = c.fetch-result.ensures in
    fetched _ c.args.fetch_case.worktrees _ _ _ _ _ (concat c.args.fetch_case.pieces) c.fetch-result.result _ _ told trees nothing f.fetched f.refused (record {
      transport = λ e. no_fault _ _ sure f.peer.counts (f.peer.cause (rw e refl));
      interrupted = λ e. no_fault _ _ calm f.interrupt.counts (f.interrupt.cause (rw e refl));
      client = λ e. no_fault _ _ sure f.peer.counts (f.peer.cause (rw e refl));
      stopped = λ e. no_fault _ _ calm f.interrupt.counts (f.interrupt.cause (rw e refl));
      listing = λ e. no_fault _ _ (rw c.new-4.ensures.items at c.new-worktrees.ensures.listing) f.worktrees.listing_counts (f.worktrees.listing (rw e refl));
      open_repo = λ e. no_fault _ _ (rw c.new-4.ensures.items at c.new-worktrees.ensures.open_repo) f.worktrees.open_repo_counts (f.worktrees.open_repo (rw e refl));
      follow_symref = λ e. no_fault _ _ (rw c.new-4.ensures.items at c.new-worktrees.ensures.follow_symref) f.worktrees.follow_symref_counts (f.worktrees.follow_symref (rw e refl));
      unmade = λ path e. in_nothing _ path nothing (f.files.in_the_way path (rw e refl) never);
      unremoved = λ path e. let none = f.files.removable (rw e refl) never in absurd (cc (none, nothing));
    })

pub returns-clause-calm : goal.returns-clause-calm
returns-clause-calm g c = let never = rw c.new-3.ensures.items at c.new-files.ensures.may_fail in c.fetch-result.ensures.files.may_fail ∙ never

pub returns-clause-setup : goal.returns-clause-setup
returns-clause-setup g c = c.fetch-result.ensures.setup
