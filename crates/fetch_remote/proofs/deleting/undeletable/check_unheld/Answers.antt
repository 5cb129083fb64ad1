use Rattle.std.proofs.Common.{◌≡◌, None, refl, inr}
use Rattle.fetch_remote.specs.Blame.{told_by, fault_deleting}
use Rattle.fetch_remote.proofs.Blamed.{held_trees, fault_is}
use Rattle.fetch_remote.proofs.deleting.undeletable.check_unheld.Goals as goal

pub returns-in-Ok-clause-worktrees : goal.returns-in-Ok-clause-worktrees
returns-in-Ok-clause-worktrees g c =
    let none : told_by fault_deleting c.check_in.result ≡ None = held_trees c.as_slice.result.now c.args.names.now c.check_in.result c.check_in.ensures.refused in
    record {
      told = c.in-Ok.ensures.known;
      asked_once = inr c.in-Ok.ensures.asked;
      listing_counts = c.in-Ok.ensures.listing_counts;
      open_repo_counts = c.in-Ok.ensures.open_repo_counts;
      follow_symref_counts = c.in-Ok.ensures.follow_symref_counts;
      listing = λ is. absurd (cc none);
      open_repo = λ is. absurd (cc none);
      follow_symref = λ is. absurd (cc none);
    }

pub returns-in-Err-clause-worktrees : goal.returns-in-Err-clause-worktrees
returns-in-Err-clause-worktrees g c =
    rw c.listing_error.ensures (record {
      told = c.in-Err.ensures.known;
      asked_once = inr c.in-Err.ensures.asked;
      listing_counts = c.in-Err.ensures.listing_counts;
      open_repo_counts = c.in-Err.ensures.open_repo_counts;
      follow_symref_counts = c.in-Err.ensures.follow_symref_counts;
      listing = λ is. c.in-Err.ensures.listing_cause (rw (fault_is c.in-Err.fault _ is) refl);
      open_repo = λ is. c.in-Err.ensures.open_repo_cause (rw (fault_is c.in-Err.fault _ is) refl);
      follow_symref = λ is. c.in-Err.ensures.follow_symref_cause (rw (fault_is c.in-Err.fault _ is) refl);
    })
