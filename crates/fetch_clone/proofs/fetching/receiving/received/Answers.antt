use Rattle.std.proofs.Common.{Bool, refl, ap, ◌∙◌, inl, inr}
use Rattle.std.specs.Prelude.{if◌then◌else◌}
use Rattle.std.proofs.lemmas.Result.{err_from_is_err_and}
use Rattle.fetch_base.specs.Faults.{Counts-none, Counts-then, Rose-earlier}
use Rattle.fetch_clone.specs.Counted.{Meters, peer_meters, tree_meters}
use Rattle.fetch_clone.proofs.Counted.{later-none, later-files}
use Rattle.fetch_clone.proofs.Heeded.{heeded-of}
use Rattle.fetch_clone.proofs.Rehashed.{of-hash, resolved-in, still-listed}
use Rattle.fetch_clone.proofs.StepsCounted.{receiving-counted, reopening-counted, unmapped-counted}
use Rattle.fetch_clone.proofs.fetching.receiving.received.Goals as goal

-- ---- what isn't mapped

pub returns-in_err-check_mapped-clause-refused : goal.returns-in_err-check_mapped-clause-refused
returns-in_err-check_mapped-clause-refused g c =
    let p = err_from_is_err_and c.from_residual.result c.from_residual.ensures.1 in
    rw (p.1, p.2) (λ begun h. record { by = inl (record { why = c.in_err-check_mapped.ensures.refused; repository = refl; tree = refl }) })

pub returns-in_err-check_mapped-clause-kind : goal.returns-in_err-check_mapped-clause-kind
returns-in_err-check_mapped-clause-kind g c =
    let p = err_from_is_err_and c.from_residual.result c.from_residual.ensures.1 in
    rw (p.1, p.2) (inl c.in_err-check_mapped.ensures.refused)

pub returns-in_err-prepared-clause-refused : goal.returns-in_err-prepared-clause-refused
returns-in_err-prepared-clause-refused g c =
    let p = err_from_is_err_and c.from_residual-in_err-prepared.result c.from_residual-in_err-prepared.ensures.1 in
    rw (p.1, p.2) (λ begun h. record { by = inl (record { why = inl refl; repository = refl; tree = refl }) })

pub returns-in_err-prepared-clause-kind : goal.returns-in_err-prepared-clause-kind
returns-in_err-prepared-clause-kind g c =
    let p = err_from_is_err_and c.from_residual-in_err-prepared.result c.from_residual-in_err-prepared.ensures.1 in
    rw (p.1, p.2) (inl (inl refl))

-- ---- a hash that isn't taken

pub returns-in_err-reread-clause-refused : goal.returns-in_err-reread-clause-refused
returns-in_err-reread-clause-refused g c =
    let p = err_from_is_err_and c.from_residual-in_err-reread.result c.from_residual-in_err-reread.ensures.1 in
    let refused = rw c.in_ok-prepared.ensures.listed at c.in_err-reread.ensures.refused in
    rw (p.1, p.2) (λ begun h. record { by = inr (inl (record { mapped = c.in_ok-check_mapped.ensures.ok; why = refused; repository = c.in_err-reread.ensures.err })) })

pub returns-in_err-reread-clause-kind : goal.returns-in_err-reread-clause-kind
returns-in_err-reread-clause-kind g c =
    let p = err_from_is_err_and c.from_residual-in_err-reread.result c.from_residual-in_err-reread.ensures.1 in
    rw (p.1, p.2) (inr (inl (of-hash _ _ _ _ _ c.in_err-reread.field-0.0 c.in_err-reread.ensures.refused)))

-- ---- what is fetched

pub put_reread-requires : goal.put_reread-requires
put_reread-requires g c = resolved-in _ _ _ _ _ c.in_ok-reread.reread c.in_ok-reread.ensures.hashed _ c.fetch_on-fetched.ensures.setup

pub returns-in-Ok-clause-received : goal.returns-in-Ok-clause-received
returns-in-Ok-clause-received g c =
    let hashed = rw c.in_ok-prepared.ensures.listed at c.in_ok-reread.ensures.hashed in
    let fetched = rw (c.in_ok-prepared.ensures.listed, c.in_ok-prepared.ensures.options, ← c.put_reread.ensures.state) at c.in-Ok.ensures.fetched in
    λ begun h. record {
      asked = c.take_hash.new.repo;
      written = g.F.Files.told c.take_hash.new.files;
      reread = c.in_ok-reread.reread;
      ready = record { mapped = c.in_ok-check_mapped.ensures.ok; hashed = hashed };
      fetched = fetched begun (still-listed _ _ _ _ _ c.in_ok-reread.reread hashed _ begun _ c.args.remote.now c.args.prepared h);
      setup = rw c.fetch_on-fetched.ensures.setup at c.put_reread.ensures.setup;
    }

pub returns-in-Err-clause-refused : goal.returns-in-Err-clause-refused
returns-in-Err-clause-refused g c =
    let hashed = rw c.in_ok-prepared.ensures.listed at c.in_ok-reread.ensures.hashed in
    let refused = rw (c.in_ok-prepared.ensures.listed, c.in_ok-prepared.ensures.options, ← c.put_reread.ensures.state) at c.in-Err.ensures.refused in
    let complete = rw (c.in_ok-prepared.ensures.listed, c.in_ok-prepared.ensures.options) at c.in-Err.ensures.complete in
    λ begun h. record {
      by = inr (inr (record {
        asked = c.take_hash.new.repo;
        written = g.F.Files.told c.take_hash.new.files;
        reread = c.in_ok-reread.reread;
        ready = record { mapped = c.in_ok-check_mapped.ensures.ok; hashed = hashed };
        unfetched = record {
          cause = c.in-Err.e;
          told = c.from.ensures;
          refused = refused begun (still-listed _ _ _ _ _ c.in_ok-reread.reread hashed _ begun _ c.args.remote.now c.args.prepared h);
          complete = complete begun (still-listed _ _ _ _ _ c.in_ok-reread.reread hashed _ begun _ c.args.remote.now c.args.prepared h);
          in_the_way = λ path k. rw c.in_ok-reread.ensures.may_fail at (c.in-Err.ensures.files.in_the_way path (rw k refl));
          removable = λ path k none. c.in-Err.ensures.files.removable (rw k refl) (c.in_ok-reread.ensures.may_fail ∙ none);
        };
        setup = rw c.fetch_on-fetched.ensures.setup at c.put_reread.ensures.setup;
      }));
    }

pub returns-in-Err-clause-kind : goal.returns-in-Err-clause-kind
returns-in-Err-clause-kind g c = inr (inr (c.in-Err.e, c.from.ensures))

-- ---- what is counted

pub returns-in_err-check_mapped-clause-counted : goal.returns-in_err-check_mapped-clause-counted
returns-in_err-check_mapped-clause-counted g c =
    let p = err_from_is_err_and c.from_residual.result c.from_residual.ensures.1 in
    let m : Meters = peer_meters (g.P.Peer.faults c.args.peer.now) (g.I.Interrupt.yes c.args.interrupt.now) (g.F.Files.faults c.args.files.now) (tree_meters (g.W.Worktrees.listing c.args.worktrees.now) (g.W.Worktrees.open_repo c.args.worktrees.now) (g.W.Worktrees.follow_symref c.args.worktrees.now)) in
    rw (p.1, p.2) (unmapped-counted m m c.args.draft.now.choices.wanted c.args.prepared.listed.ref_map c.in_err-check_mapped.field-0.0 c.in_err-check_mapped.ensures.refused)

pub returns-in_err-check_mapped-clause-later : goal.returns-in_err-check_mapped-clause-later
returns-in_err-check_mapped-clause-later g c = later-none _

pub returns-in_err-prepared-clause-counted : goal.returns-in_err-prepared-clause-counted
returns-in_err-prepared-clause-counted g c =
    let p = err_from_is_err_and c.from_residual-in_err-prepared.result c.from_residual-in_err-prepared.ensures.1 in
    rw (p.1, p.2) tt

pub returns-in_err-prepared-clause-later : goal.returns-in_err-prepared-clause-later
returns-in_err-prepared-clause-later g c = later-none _

pub returns-in_err-reread-clause-counted : goal.returns-in_err-reread-clause-counted
returns-in_err-reread-clause-counted g c =
    let p = err_from_is_err_and c.from_residual-in_err-reread.result c.from_residual-in_err-reread.ensures.1 in
    let was : Meters = peer_meters (g.P.Peer.faults c.args.peer.now) (g.I.Interrupt.yes c.args.interrupt.now) (g.F.Files.faults c.args.files.now) (tree_meters (g.W.Worktrees.listing c.args.worktrees.now) (g.W.Worktrees.open_repo c.args.worktrees.now) (g.W.Worktrees.follow_symref c.args.worktrees.now)) in
    let is : Meters = peer_meters (g.P.Peer.faults c.args.peer.now) (g.I.Interrupt.yes c.args.interrupt.now) (g.F.Files.faults c.take_hash.new.files) (tree_meters (g.W.Worktrees.listing c.args.worktrees.now) (g.W.Worktrees.open_repo c.args.worktrees.now) (g.W.Worktrees.follow_symref c.args.worktrees.now)) in
    let o = of-hash _ _ _ _ _ c.in_err-reread.field-0.0 c.in_err-reread.ensures.refused in
    rw (p.1, p.2, o.1) (reopening-counted was is o.0 (λ h. c.in_err-reread.ensures.io (rw (o.1, h) refl)))

pub returns-in_err-reread-clause-later : goal.returns-in_err-reread-clause-later
returns-in_err-reread-clause-later g c = later-files _ _ c.in_err-reread.ensures.counts

pub returns-in-Ok-clause-later : goal.returns-in-Ok-clause-later
returns-in-Ok-clause-later g c =
    let f = c.fetch_on-fetched.ensures in
    record {
      made = Counts-none _;
      lost = f.peer.counts.later;
      yes = f.interrupt.counts;
      files = Counts-then _ _ _ c.in_ok-reread.ensures.counts f.files.counts;
      listing = f.worktrees.listing_counts;
      open_repo = f.worktrees.open_repo_counts;
      follow_symref = f.worktrees.follow_symref_counts;
    }

pub returns-in-Err-clause-later : goal.returns-in-Err-clause-later
returns-in-Err-clause-later g c =
    let f = c.fetch_on-fetched.ensures in
    record {
      made = Counts-none _;
      lost = f.peer.counts.later;
      yes = f.interrupt.counts;
      files = Counts-then _ _ _ c.in_ok-reread.ensures.counts f.files.counts;
      listing = f.worktrees.listing_counts;
      open_repo = f.worktrees.open_repo_counts;
      follow_symref = f.worktrees.follow_symref_counts;
    }

pub returns-in-Err-clause-counted : goal.returns-in-Err-clause-counted
returns-in-Err-clause-counted g c =
    let was : Meters = peer_meters (g.P.Peer.faults c.args.peer.now) (g.I.Interrupt.yes c.args.interrupt.now) (g.F.Files.faults c.args.files.now) (tree_meters (g.W.Worktrees.listing c.args.worktrees.now) (g.W.Worktrees.open_repo c.args.worktrees.now) (g.W.Worktrees.follow_symref c.args.worktrees.now)) in
    let is : Meters = peer_meters (g.P.Peer.faults c.fetch_on-fetched.new.peer) (g.I.Interrupt.yes c.fetch_on-fetched.new.interrupt) (g.F.Files.faults c.fetch_on-fetched.new.files) (tree_meters (g.W.Worktrees.listing c.fetch_on-fetched.new.worktrees) (g.W.Worktrees.open_repo c.fetch_on-fetched.new.worktrees) (g.W.Worktrees.follow_symref c.fetch_on-fetched.new.worktrees)) in
    let e = c.in-Err.ensures in
    rw c.from.ensures (receiving-counted was is c.in-Err.e e.peer.cause (λ h. e.interrupt.cause (ap (λ (b : Bool). if b then 1 else 0) h)) (λ h. Rose-earlier (g.F.Files.faults c.args.files.now) (g.F.Files.faults c.take_hash.new.files) (g.F.Files.faults c.fetch_on-fetched.new.files) c.in_ok-reread.ensures.counts (e.files.cause h)) e.worktrees.listing e.worktrees.open_repo e.worktrees.follow_symref)

pub returns-in-Ok-clause-questions : goal.returns-in-Ok-clause-questions
returns-in-Ok-clause-questions g c = heeded-of _ _ _ _ _ _ _ refl c.in-Ok.ensures.interrupt
