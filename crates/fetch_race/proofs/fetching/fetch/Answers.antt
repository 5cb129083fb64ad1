use Rattle.std.proofs.Common.{Bool, false, Some, refl, subst}
use Rattle.fetch_files.specs.FileCalls.{IsRefused as IsBlocked}
use Rattle.fetch_remote.specs.Keeping.{with_keep}
use Rattle.fetch_race.specs.declared.job.Job.{Job}
use Rattle.fetch_race.specs.Racing.{Race}
use Rattle.fetch_race.proofs.Calm.{no_count, no_yes, never_kept}
use Rattle.fetch_race.proofs.Fetched.{done, refused}
use Rattle.fetch_race.proofs.fetching.fetch.Goals as goal

pub returns-in-Ok : goal.returns-in-Ok
returns-in-Ok g c =
    let race : Race g.row.P.Denot = record { answers = g.P.Peer.answers; told = g.P.Peer.told; faults = g.P.Peer.faults; trees = c.args.worktrees.items; opening = c.args.shared.now.opening } in
    let job : Job g.row.P.Denot = record { remote = c.args.remote.now; peer = c.args.peer.now; options = c.args.options } in
    done race job c.fetch_shared-answer.new.peer c.args.pass c.in-Ok.pass c.in-Ok.receipt (Some c.fetch_shared-answer.new.files.tree) c.args.options _ _ c.in-Ok.outcome
    refl c.new-trees.ensures.told c.new-files.ensures.told c.in-Ok.ensures.back c.in-Ok.ensures.receipt c.in-Ok.ensures.peer c.in-Ok.ensures.fetched

pub returns : goal.returns
returns g c =
    let race : Race g.row.P.Denot = record { answers = g.P.Peer.answers; told = g.P.Peer.told; faults = g.P.Peer.faults; trees = c.args.worktrees.items; opening = c.args.shared.now.opening } in
    let job : Job g.row.P.Denot = record { remote = c.args.remote.now; peer = c.args.peer.now; options = c.args.options } in
    let f = c.fetch_shared-answer.ensures in
    let e = c.in-Err.ensures in
    let none = rw c.new.ensures.items at c.new-interrupt.ensures.count in
    let never = rw c.new-2.ensures.items at c.new-files.ensures.may_fail in
    let nothing = c.new-files.ensures.told in
    refused race job c.fetch_shared-answer.new.peer c.args.pass c.in-Err.pass c.in-Err.receipt (Some c.fetch_shared-answer.new.files.tree) c.args.options _ _ c.in-Err.e
    refl c.new-trees.ensures.told nothing e.back e.receipt e.peer e.refused (no_yes _ _ _ _ _ _ c.in-Err.e none e.interrupt)
    (record {
      listing = λ is. no_count _ _ false (rw c.new-3.ensures.items at c.new-trees.ensures.listing) refl f.worktrees.listing_counts (e.worktrees.listing (rw is refl));
      open_repo = λ is. no_count _ _ false (rw c.new-3.ensures.items at c.new-trees.ensures.open_repo) refl f.worktrees.open_repo_counts (e.worktrees.open_repo (rw is refl));
      follow_symref = λ is. no_count _ _ false (rw c.new-3.ensures.items at c.new-trees.ensures.follow_symref) refl f.worktrees.follow_symref_counts (e.worktrees.follow_symref (rw is refl));
      unmade = λ path is. never_kept _ _ _ c.in-Err.e _ nothing e.refused path is (subst (λ (b : Bool). IsBlocked b (Some c.new-files.result.tree) (with_keep (Some path))) never (e.files.in_the_way path (rw is refl)));
      unremoved = λ path is. let none = e.files.removable (rw is refl) never in absurd (cc (none, nothing));
    })
    e.complete
