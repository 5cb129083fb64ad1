use Rattle.std.proofs.Common.{◌≡◌, ◌+◌, refl, ◌∙◌, arith, inl, inr}
use Rattle.std.proofs.lemmas.Result.{err_from_is_err_and}
use Rattle.fetch_base.specs.Faults.{Counts-none}
use Rattle.fetch_clone.specs.Counted.{meters, tree_meters}
use Rattle.fetch_clone.proofs.Completing.{was-listed}
use Rattle.fetch_clone.proofs.Counted.{counted-later, later-files, later-then}
use Rattle.fetch_clone.proofs.Heeded.{heeded-on}
use Rattle.fetch_clone.proofs.StepsCounted.{finished-counted, listed-counted}
use Rattle.fetch_clone.proofs.fetching.completing.completed.Goals as goal

pub returns-in_err-peer-clause-refused : goal.returns-in_err-peer-clause-refused
returns-in_err-peer-clause-refused g c =
    let p = err_from_is_err_and c.from_residual.result c.from_residual.ensures.1 in
    rw (p.1, p.2) (record { by = inl (rw c.as_bytes-name.ensures at c.in_err-peer.ensures.refused, refl, refl) })

pub returns-in_err-outcome-clause-refused : goal.returns-in_err-outcome-clause-refused
returns-in_err-outcome-clause-refused g c =
    let p = err_from_is_err_and c.from_residual-in_err-outcome.result c.from_residual-in_err-outcome.ensures.1 in
    let found = rw c.as_bytes-name.ensures at c.in_ok-peer.ensures.listed in
    let listed = found.0 in
    rw (p.1, p.2)
    (record {
      by = inr (inl (record {
        between = _;
        peer = c.in_ok-peer.peer;
        prepared = c.in_ok-peer.prepared;
        listed = listed;
        why = c.in_err-outcome.ensures.refused _ (was-listed _ _ _ _ _ _ listed);
        same_left = c.in_err-outcome.ensures.left;
        same_addresses = c.in_err-outcome.ensures.addresses;
        same_closure = refl;
      }));
    })

pub returns-in-Ok-clause-completed : goal.returns-in-Ok-clause-completed
returns-in-Ok-clause-completed g c =
    let found = rw c.as_bytes-name.ensures at c.in_ok-peer.ensures.listed in
    let listed = found.0 in
    record {
      between = c.taken.new.repo;
      stood = _;
      fetched = record {
        between = _;
        peer = c.in_ok-peer.peer;
        prepared = c.in_ok-peer.prepared;
        listed = listed;
        taken = (c.in_ok-outcome.ensures.taken _ (was-listed _ _ _ _ _ _ listed)).0;
        same_left = c.in_ok-outcome.ensures.left;
        same_addresses = c.in_ok-outcome.ensures.addresses;
        same_closure = refl;
      };
      finished = rw (c.as_bytes-name.ensures, c.section_left-section.ensures, c.object_hash-before.ensures.hash, c.object_hash.ensures.hash) at c.in-Ok.ensures.ok;
      questions = heeded-on _ _ _ _ _ _ found.1 (c.in_ok-outcome.ensures.taken _ (was-listed _ _ _ _ _ _ listed)).1;
    }

pub returns-in-Err-clause-refused : goal.returns-in-Err-clause-refused
returns-in-Err-clause-refused g c =
    let found = rw c.as_bytes-name.ensures at c.in_ok-peer.ensures.listed in
    let listed = found.0 in
    record {
      by = inr (inr (record {
        between = c.taken.new.repo;
        stood = _;
        outcome = c.in_ok-outcome.outcome;
        fetched = record {
          between = _;
          peer = c.in_ok-peer.peer;
          prepared = c.in_ok-peer.prepared;
          listed = listed;
          taken = (c.in_ok-outcome.ensures.taken _ (was-listed _ _ _ _ _ _ listed)).0;
          same_left = c.in_ok-outcome.ensures.left;
          same_addresses = c.in_ok-outcome.ensures.addresses;
          same_closure = refl;
        };
        why = rw (c.as_bytes-name.ensures, c.section_left-section.ensures, c.object_hash-before.ensures.hash, c.object_hash.ensures.hash, c.in_ok-outcome.ensures.may_fail) at c.in-Err.ensures.refused;
      }));
    }

pub returns-in_err-outcome-clause-out : goal.returns-in_err-outcome-clause-out
returns-in_err-outcome-clause-out g c =
    let made : g.C.Connect.out c.listed.new.maker ≡ g.C.Connect.out c.args.maker.now + 1 = c.in_ok-peer.ensures.maker.out_is in
    omega (arith, made, c.in_err-outcome.ensures.out)

pub returns-in-Ok-clause-out : goal.returns-in-Ok-clause-out
returns-in-Ok-clause-out g c =
    let made : g.C.Connect.out c.listed.new.maker ≡ g.C.Connect.out c.args.maker.now + 1 = c.in_ok-peer.ensures.maker.out_is in
    omega (arith, made, c.in_ok-outcome.ensures.out)

pub returns-in-Err-clause-out : goal.returns-in-Err-clause-out
returns-in-Err-clause-out g c =
    let made : g.C.Connect.out c.listed.new.maker ≡ g.C.Connect.out c.args.maker.now + 1 = c.in_ok-peer.ensures.maker.out_is in
    omega (arith, made, c.in_ok-outcome.ensures.out)

pub returns-in_err-peer-clause-out : goal.returns-in_err-peer-clause-out
returns-in_err-peer-clause-out g c = c.in_err-peer.ensures.maker.out_is

pub taken-requires-clause-some_out : goal.taken-requires-clause-some_out
taken-requires-clause-some_out g c =
    let made : g.C.Connect.out c.listed.new.maker ≡ g.C.Connect.out c.args.maker.now + 1 = c.in_ok-peer.ensures.maker.out_is in
    omega (arith, made)

pub returns-in_err-peer-clause-blames : goal.returns-in_err-peer-clause-blames
returns-in_err-peer-clause-blames g c =
    let p = err_from_is_err_and c.from_residual.result c.from_residual.ensures.1 in
    rw (p.1, p.2)
    (record {
      counted = (listed-counted _ (meters (g.C.Connect.faults c.args.maker.now) (g.C.Connect.lost c.args.maker.now) (g.I.Interrupt.yes c.args.interrupt.now) (g.F.Files.faults c.args.files.now) (tree_meters (g.W.Worktrees.listing c.args.worktrees.now) (g.W.Worktrees.open_repo c.args.worktrees.now) (g.W.Worktrees.follow_symref c.args.worktrees.now))) (meters (g.C.Connect.faults c.listed.new.maker) (g.C.Connect.lost c.listed.new.maker) (g.I.Interrupt.yes c.listed.new.interrupt) (g.F.Files.faults c.args.files.now) (tree_meters (g.W.Worktrees.listing c.args.worktrees.now) (g.W.Worktrees.open_repo c.args.worktrees.now) (g.W.Worktrees.follow_symref c.args.worktrees.now))) _ _ _ c.in_err-peer.field-0.0 c.in_err-peer.ensures.refused (λ h. c.in_err-peer.ensures.maker.cause (rw h refl)) (λ h. c.in_err-peer.ensures.interrupt.cause (rw h refl)));
      later = record { made = c.in_err-peer.ensures.maker.counts; lost = c.in_err-peer.ensures.maker.lost; yes = c.in_err-peer.ensures.interrupt.counts; files = Counts-none _; listing = Counts-none _; open_repo = Counts-none _; follow_symref = Counts-none _ };
    })

pub returns-in_err-outcome-clause-blames : goal.returns-in_err-outcome-clause-blames
returns-in_err-outcome-clause-blames g c =
    let p = err_from_is_err_and c.from_residual-in_err-outcome.result c.from_residual-in_err-outcome.ensures.1 in
    rw (p.1, p.2)
    (record {
      counted = (counted-later (meters (g.C.Connect.faults c.args.maker.now) (g.C.Connect.lost c.args.maker.now) (g.I.Interrupt.yes c.args.interrupt.now) (g.F.Files.faults c.args.files.now) (tree_meters (g.W.Worktrees.listing c.args.worktrees.now) (g.W.Worktrees.open_repo c.args.worktrees.now) (g.W.Worktrees.follow_symref c.args.worktrees.now))) (meters (g.C.Connect.faults c.listed.new.maker) (g.C.Connect.lost c.listed.new.maker) (g.I.Interrupt.yes c.listed.new.interrupt) (g.F.Files.faults c.args.files.now) (tree_meters (g.W.Worktrees.listing c.args.worktrees.now) (g.W.Worktrees.open_repo c.args.worktrees.now) (g.W.Worktrees.follow_symref c.args.worktrees.now))) (meters (g.C.Connect.faults c.taken.new.maker) (g.C.Connect.lost c.taken.new.maker) (g.I.Interrupt.yes c.taken.new.interrupt) (g.F.Files.faults c.taken.new.files) (tree_meters (g.W.Worktrees.listing c.taken.new.worktrees) (g.W.Worktrees.open_repo c.taken.new.worktrees) (g.W.Worktrees.follow_symref c.taken.new.worktrees))) c.in_err-outcome.field-0.0 (record { made = c.in_ok-peer.ensures.maker.counts; lost = c.in_ok-peer.ensures.maker.lost; yes = c.in_ok-peer.ensures.interrupt.counts; files = Counts-none _; listing = Counts-none _; open_repo = Counts-none _; follow_symref = Counts-none _ }) c.in_err-outcome.ensures.blames.counted);
      later = later-then (meters (g.C.Connect.faults c.args.maker.now) (g.C.Connect.lost c.args.maker.now) (g.I.Interrupt.yes c.args.interrupt.now) (g.F.Files.faults c.args.files.now) (tree_meters (g.W.Worktrees.listing c.args.worktrees.now) (g.W.Worktrees.open_repo c.args.worktrees.now) (g.W.Worktrees.follow_symref c.args.worktrees.now))) (meters (g.C.Connect.faults c.listed.new.maker) (g.C.Connect.lost c.listed.new.maker) (g.I.Interrupt.yes c.listed.new.interrupt) (g.F.Files.faults c.args.files.now) (tree_meters (g.W.Worktrees.listing c.args.worktrees.now) (g.W.Worktrees.open_repo c.args.worktrees.now) (g.W.Worktrees.follow_symref c.args.worktrees.now))) (meters (g.C.Connect.faults c.taken.new.maker) (g.C.Connect.lost c.taken.new.maker) (g.I.Interrupt.yes c.taken.new.interrupt) (g.F.Files.faults c.taken.new.files) (tree_meters (g.W.Worktrees.listing c.taken.new.worktrees) (g.W.Worktrees.open_repo c.taken.new.worktrees) (g.W.Worktrees.follow_symref c.taken.new.worktrees))) (record { made = c.in_ok-peer.ensures.maker.counts; lost = c.in_ok-peer.ensures.maker.lost; yes = c.in_ok-peer.ensures.interrupt.counts; files = Counts-none _; listing = Counts-none _; open_repo = Counts-none _; follow_symref = Counts-none _ }) c.in_err-outcome.ensures.blames.later;
    })

pub returns-in-Ok-clause-blames : goal.returns-in-Ok-clause-blames
returns-in-Ok-clause-blames g c =
    let later = later-then (meters (g.C.Connect.faults c.args.maker.now) (g.C.Connect.lost c.args.maker.now) (g.I.Interrupt.yes c.args.interrupt.now) (g.F.Files.faults c.args.files.now) (tree_meters (g.W.Worktrees.listing c.args.worktrees.now) (g.W.Worktrees.open_repo c.args.worktrees.now) (g.W.Worktrees.follow_symref c.args.worktrees.now))) (meters (g.C.Connect.faults c.listed.new.maker) (g.C.Connect.lost c.listed.new.maker) (g.I.Interrupt.yes c.listed.new.interrupt) (g.F.Files.faults c.args.files.now) (tree_meters (g.W.Worktrees.listing c.args.worktrees.now) (g.W.Worktrees.open_repo c.args.worktrees.now) (g.W.Worktrees.follow_symref c.args.worktrees.now))) (meters (g.C.Connect.faults c.taken.new.maker) (g.C.Connect.lost c.taken.new.maker) (g.I.Interrupt.yes c.taken.new.interrupt) (g.F.Files.faults c.finished.new.files) (tree_meters (g.W.Worktrees.listing c.taken.new.worktrees) (g.W.Worktrees.open_repo c.taken.new.worktrees) (g.W.Worktrees.follow_symref c.taken.new.worktrees))) (record { made = c.in_ok-peer.ensures.maker.counts; lost = c.in_ok-peer.ensures.maker.lost; yes = c.in_ok-peer.ensures.interrupt.counts; files = Counts-none _; listing = Counts-none _; open_repo = Counts-none _; follow_symref = Counts-none _ })
    (later-then (meters (g.C.Connect.faults c.listed.new.maker) (g.C.Connect.lost c.listed.new.maker) (g.I.Interrupt.yes c.listed.new.interrupt) (g.F.Files.faults c.args.files.now) (tree_meters (g.W.Worktrees.listing c.args.worktrees.now) (g.W.Worktrees.open_repo c.args.worktrees.now) (g.W.Worktrees.follow_symref c.args.worktrees.now))) (meters (g.C.Connect.faults c.taken.new.maker) (g.C.Connect.lost c.taken.new.maker) (g.I.Interrupt.yes c.taken.new.interrupt) (g.F.Files.faults c.taken.new.files) (tree_meters (g.W.Worktrees.listing c.taken.new.worktrees) (g.W.Worktrees.open_repo c.taken.new.worktrees) (g.W.Worktrees.follow_symref c.taken.new.worktrees))) (meters (g.C.Connect.faults c.taken.new.maker) (g.C.Connect.lost c.taken.new.maker) (g.I.Interrupt.yes c.taken.new.interrupt) (g.F.Files.faults c.finished.new.files) (tree_meters (g.W.Worktrees.listing c.taken.new.worktrees) (g.W.Worktrees.open_repo c.taken.new.worktrees) (g.W.Worktrees.follow_symref c.taken.new.worktrees))) c.in_ok-outcome.ensures.blames.later (later-files (meters (g.C.Connect.faults c.taken.new.maker) (g.C.Connect.lost c.taken.new.maker) (g.I.Interrupt.yes c.taken.new.interrupt) (g.F.Files.faults c.taken.new.files) (tree_meters (g.W.Worktrees.listing c.taken.new.worktrees) (g.W.Worktrees.open_repo c.taken.new.worktrees) (g.W.Worktrees.follow_symref c.taken.new.worktrees))) (g.F.Files.faults c.finished.new.files) c.finished.ensures.counts)) in
    let before : (g.I.Interrupt.yes c.listed.new.interrupt).count ≡ (g.I.Interrupt.yes c.args.interrupt.now).count = c.in_ok-peer.ensures.interrupt.quiet in
    let since : (g.I.Interrupt.yes c.taken.new.interrupt).count ≡ (g.I.Interrupt.yes c.listed.new.interrupt).count = c.in_ok-outcome.ensures.blames.counted in
    record { counted = since ∙ before; later = later }

pub returns-in-Err-clause-blames : goal.returns-in-Err-clause-blames
returns-in-Err-clause-blames g c =
    let before = later-then (meters (g.C.Connect.faults c.args.maker.now) (g.C.Connect.lost c.args.maker.now) (g.I.Interrupt.yes c.args.interrupt.now) (g.F.Files.faults c.args.files.now) (tree_meters (g.W.Worktrees.listing c.args.worktrees.now) (g.W.Worktrees.open_repo c.args.worktrees.now) (g.W.Worktrees.follow_symref c.args.worktrees.now))) (meters (g.C.Connect.faults c.listed.new.maker) (g.C.Connect.lost c.listed.new.maker) (g.I.Interrupt.yes c.listed.new.interrupt) (g.F.Files.faults c.args.files.now) (tree_meters (g.W.Worktrees.listing c.args.worktrees.now) (g.W.Worktrees.open_repo c.args.worktrees.now) (g.W.Worktrees.follow_symref c.args.worktrees.now))) (meters (g.C.Connect.faults c.taken.new.maker) (g.C.Connect.lost c.taken.new.maker) (g.I.Interrupt.yes c.taken.new.interrupt) (g.F.Files.faults c.taken.new.files) (tree_meters (g.W.Worktrees.listing c.taken.new.worktrees) (g.W.Worktrees.open_repo c.taken.new.worktrees) (g.W.Worktrees.follow_symref c.taken.new.worktrees))) (record { made = c.in_ok-peer.ensures.maker.counts; lost = c.in_ok-peer.ensures.maker.lost; yes = c.in_ok-peer.ensures.interrupt.counts; files = Counts-none _; listing = Counts-none _; open_repo = Counts-none _; follow_symref = Counts-none _ }) c.in_ok-outcome.ensures.blames.later in
    record {
      counted = counted-later (meters (g.C.Connect.faults c.args.maker.now) (g.C.Connect.lost c.args.maker.now) (g.I.Interrupt.yes c.args.interrupt.now) (g.F.Files.faults c.args.files.now) (tree_meters (g.W.Worktrees.listing c.args.worktrees.now) (g.W.Worktrees.open_repo c.args.worktrees.now) (g.W.Worktrees.follow_symref c.args.worktrees.now))) (meters (g.C.Connect.faults c.taken.new.maker) (g.C.Connect.lost c.taken.new.maker) (g.I.Interrupt.yes c.taken.new.interrupt) (g.F.Files.faults c.taken.new.files) (tree_meters (g.W.Worktrees.listing c.taken.new.worktrees) (g.W.Worktrees.open_repo c.taken.new.worktrees) (g.W.Worktrees.follow_symref c.taken.new.worktrees))) (meters (g.C.Connect.faults c.taken.new.maker) (g.C.Connect.lost c.taken.new.maker) (g.I.Interrupt.yes c.taken.new.interrupt) (g.F.Files.faults c.finished.new.files) (tree_meters (g.W.Worktrees.listing c.taken.new.worktrees) (g.W.Worktrees.open_repo c.taken.new.worktrees) (g.W.Worktrees.follow_symref c.taken.new.worktrees))) c.in-Err.e before
          (finished-counted (meters (g.C.Connect.faults c.taken.new.maker) (g.C.Connect.lost c.taken.new.maker) (g.I.Interrupt.yes c.taken.new.interrupt) (g.F.Files.faults c.taken.new.files) (tree_meters (g.W.Worktrees.listing c.taken.new.worktrees) (g.W.Worktrees.open_repo c.taken.new.worktrees) (g.W.Worktrees.follow_symref c.taken.new.worktrees))) (meters (g.C.Connect.faults c.taken.new.maker) (g.C.Connect.lost c.taken.new.maker) (g.I.Interrupt.yes c.taken.new.interrupt) (g.F.Files.faults c.finished.new.files) (tree_meters (g.W.Worktrees.listing c.taken.new.worktrees) (g.W.Worktrees.open_repo c.taken.new.worktrees) (g.W.Worktrees.follow_symref c.taken.new.worktrees))) _ _ _ _ _ _ _ _ _ c.in-Err.e c.in-Err.ensures.refused (λ h. c.in-Err.ensures.io (rw h refl)));
      later = later-then (meters (g.C.Connect.faults c.args.maker.now) (g.C.Connect.lost c.args.maker.now) (g.I.Interrupt.yes c.args.interrupt.now) (g.F.Files.faults c.args.files.now) (tree_meters (g.W.Worktrees.listing c.args.worktrees.now) (g.W.Worktrees.open_repo c.args.worktrees.now) (g.W.Worktrees.follow_symref c.args.worktrees.now))) (meters (g.C.Connect.faults c.listed.new.maker) (g.C.Connect.lost c.listed.new.maker) (g.I.Interrupt.yes c.listed.new.interrupt) (g.F.Files.faults c.args.files.now) (tree_meters (g.W.Worktrees.listing c.args.worktrees.now) (g.W.Worktrees.open_repo c.args.worktrees.now) (g.W.Worktrees.follow_symref c.args.worktrees.now))) (meters (g.C.Connect.faults c.taken.new.maker) (g.C.Connect.lost c.taken.new.maker) (g.I.Interrupt.yes c.taken.new.interrupt) (g.F.Files.faults c.finished.new.files) (tree_meters (g.W.Worktrees.listing c.taken.new.worktrees) (g.W.Worktrees.open_repo c.taken.new.worktrees) (g.W.Worktrees.follow_symref c.taken.new.worktrees))) (record { made = c.in_ok-peer.ensures.maker.counts; lost = c.in_ok-peer.ensures.maker.lost; yes = c.in_ok-peer.ensures.interrupt.counts; files = Counts-none _; listing = Counts-none _; open_repo = Counts-none _; follow_symref = Counts-none _ })
          (later-then (meters (g.C.Connect.faults c.listed.new.maker) (g.C.Connect.lost c.listed.new.maker) (g.I.Interrupt.yes c.listed.new.interrupt) (g.F.Files.faults c.args.files.now) (tree_meters (g.W.Worktrees.listing c.args.worktrees.now) (g.W.Worktrees.open_repo c.args.worktrees.now) (g.W.Worktrees.follow_symref c.args.worktrees.now))) (meters (g.C.Connect.faults c.taken.new.maker) (g.C.Connect.lost c.taken.new.maker) (g.I.Interrupt.yes c.taken.new.interrupt) (g.F.Files.faults c.taken.new.files) (tree_meters (g.W.Worktrees.listing c.taken.new.worktrees) (g.W.Worktrees.open_repo c.taken.new.worktrees) (g.W.Worktrees.follow_symref c.taken.new.worktrees))) (meters (g.C.Connect.faults c.taken.new.maker) (g.C.Connect.lost c.taken.new.maker) (g.I.Interrupt.yes c.taken.new.interrupt) (g.F.Files.faults c.finished.new.files) (tree_meters (g.W.Worktrees.listing c.taken.new.worktrees) (g.W.Worktrees.open_repo c.taken.new.worktrees) (g.W.Worktrees.follow_symref c.taken.new.worktrees))) c.in_ok-outcome.ensures.blames.later (later-files (meters (g.C.Connect.faults c.taken.new.maker) (g.C.Connect.lost c.taken.new.maker) (g.I.Interrupt.yes c.taken.new.interrupt) (g.F.Files.faults c.taken.new.files) (tree_meters (g.W.Worktrees.listing c.taken.new.worktrees) (g.W.Worktrees.open_repo c.taken.new.worktrees) (g.W.Worktrees.follow_symref c.taken.new.worktrees))) (g.F.Files.faults c.finished.new.files) c.finished.ensures.counts));
    }
