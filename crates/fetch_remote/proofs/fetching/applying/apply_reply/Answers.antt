use Rattle.std.proofs.Common.{ap, sym, ◌∙◌}
use Rattle.std.proofs.lemmas.Result.{err_from_is_err_and}
use Rattle.fetch_base.specs.Faults.{Counts-then, Rose-earlier}
use Rattle.fetch_lines.specs.declared.greetings.handshake.Handshake.{Handshake}
use Rattle.fetch_map.specs.declared.mapping.RefMap.{RefMap}
use Rattle.fetch_conversation.specs.ListStage.{shown}
use Rattle.fetch_remote.specs.Keeping.{made_in}
use Rattle.fetch_remote.specs.Repositories.{state_of, setup_of}
use Rattle.fetch_remote.specs.Applying.{to_take}
use Rattle.fetch_remote.specs.declared.fetching.outcome.Status.{Status}
use Rattle.fetch_remote.proofs.Blamed.{files_as, trees_still, judging_keeps}
use Rattle.fetch_remote.proofs.Keeping.{left_files, status_is, made_none, made_is, kept_none, dry_none, removable}
use Rattle.fetch_remote.proofs.Applied.{applies, untaken, unjudged_found, unmoved, unreleased, untaken_trees, never_early, finds_all, list_of, list_told}
use Rattle.fetch_remote.proofs.fetching.applying.apply_reply.Goals as goal

pub returns-in_err-taken-clause-refused : goal.returns-in_err-taken-clause-refused
returns-in_err-taken-clause-refused g c =
    let p = err_from_is_err_and c.from_residual.result c.from_residual.ensures.1 in
    let h = rw c.as_slice.ensures at c.in_err-taken.ensures.refused in
    let known = g.W.Worktrees.told c.args.worktrees.now in
    rw (p.1, p.2, c.in_err-taken.ensures.err) (record { trees = list_of known; listed_trees = list_told known; by = untaken _ c.args.options.now (list_of known) _ _ (shown c.args.exchange.listed) c.args.exchange.received _ _ c.in_err-taken.field-0.0 h })

pub returns-in_err-updates-clause-refused : goal.returns-in_err-updates-clause-refused
returns-in_err-updates-clause-refused g c =
    let p = err_from_is_err_and c.from_residual-in_err-updates.result c.from_residual-in_err-updates.ensures.1 in
    let took = rw c.as_slice.ensures at c.in_ok-taken.ensures.state in
    let same = ap (λ (x : RefMap × Handshake). x.0) c.found-ref_map.ensures in
    let j = c.in_err-updates.ensures.judged in
    rw (p.1, p.2) (record { trees = j.trees; listed_trees = j.listed_trees; by = unjudged_found _ c.args.options.now j.trees _ _ (shown c.args.exchange.listed) c.args.exchange.received _ _ _ c.in_err-updates.field-0.0 _ same took c.in_ok-taken.ensures.made j.by })

pub returns-in_err-move_refs-clause-refused : goal.returns-in_err-move_refs-clause-refused
returns-in_err-move_refs-clause-refused g c =
    let p = err_from_is_err_and c.from_residual-in_err-move_refs.result c.from_residual-in_err-move_refs.ensures.1 in
    let took = rw c.as_slice.ensures at c.in_ok-taken.ensures.state in
    let known = g.W.Worktrees.told c.args.worktrees.now in
    rw (p.1, p.2, c.in_err-move_refs.ensures.err) (record { trees = list_of known; listed_trees = list_told known; by = unmoved _ c.args.options.now (list_of known) _ _ (shown c.args.exchange.listed) c.args.exchange.received _ _ _ took c.in_ok-taken.ensures.made })

pub returns-in_err-status-clause-refused : goal.returns-in_err-status-clause-refused
returns-in_err-status-clause-refused g c =
    let p = err_from_is_err_and c.from_residual-in_err-status.result c.from_residual-in_err-status.ensures.1 in
    let took = rw c.as_slice.ensures at c.in_ok-taken.ensures.state in
    let j = c.in_ok-updates.ensures.judged in
    let judged = rw c.found-ref_map.ensures at j.by in
    let moved = rw (c.in_ok-taken.ensures.setup, c.as_slice-2.ensures) at c.in_ok-move_refs.ensures.ok in
    let gone = rw c.in_ok-taken.ensures.told at c.in_err-status.ensures.refused in
    rw (p.1, p.2) (record {
      trees = j.trees;
      listed_trees = j.listed_trees;
      by = unreleased _ c.args.options.now j.trees _ _ (shown c.args.exchange.listed) c.args.exchange.received _ _ _ _ c.in_ok-updates.updates _ c.in_err-status.field-0.0 took judged moved gone c.in_ok-taken.ensures.made c.in_err-status.ensures.stands;
    })

pub returns-clause-applied : goal.returns-clause-applied
returns-clause-applied g c =
    let took = rw c.as_slice.ensures at c.in_ok-taken.ensures.state in
    let j = c.in_ok-updates.ensures.judged in
    let judged = rw c.found-ref_map.ensures at j.by in
    let told = rw c.in_ok-taken.ensures.told at c.in_ok-status.ensures.told in
    let moved = rw (c.in_ok-taken.ensures.setup, c.as_slice-2.ensures) at c.in_ok-move_refs.ensures.ok in
    rw c.found-ref_map.ensures (record { trees = j.trees; listed_trees = j.listed_trees; by = applies _ c.args.options.now j.trees _ _ (shown c.args.exchange.listed) c.args.exchange.received _ c.in_ok-updates.updates c.in_ok-status.status _ took judged told moved })

pub returns-clause-kept : goal.returns-clause-kept
returns-clause-kept g c =
    let told = rw c.in_ok-taken.ensures.told at c.in_ok-status.ensures.told in
    let gone = rw c.in_ok-taken.ensures.told at c.in_ok-status.ensures.removed in
    let dir = (setup_of c.args.repo.now).settings.git_dir in
    left_files _ _ _ dir c.args.options.now.dry_run c.args.exchange.received c.in_ok-updates.updates c.in_ok-status.status (told ∙ status_is dir c.args.options.now.dry_run c.args.exchange.received c.in_ok-updates.updates) c.in_ok-taken.ensures.made gone

-- ---- who is blamed, and what stays

pub returns-in_err-taken-clause-worktrees : goal.returns-in_err-taken-clause-worktrees
returns-in_err-taken-clause-worktrees g c =
    let p = err_from_is_err_and c.from_residual.result c.from_residual.ensures.1 in
    rw (p.1, p.2) (trees_still _ _ (untaken_trees (state_of c.args.repo.now) _ (to_take c.args.options.now.dry_run c.args.exchange.received) _ _ _ c.in_err-taken.field-0.0 c.in_err-taken.ensures.refused))

pub returns-in_err-updates-clause-files : goal.returns-in_err-updates-clause-files
returns-in_err-updates-clause-files g c =
    let p = err_from_is_err_and c.from_residual-in_err-updates.result c.from_residual-in_err-updates.ensures.1 in
    rw (p.1, p.2) (files_as _ _ _ _ (sym (judging_keeps c.in_err-updates.field-0.0 c.in_err-updates.ensures.only)) c.in_ok-taken.ensures.files)

pub returns-in_err-status-clause-files : goal.returns-in_err-status-clause-files
returns-in_err-status-clause-files g c =
    let p = err_from_is_err_and c.from_residual-in_err-status.result c.from_residual-in_err-status.ensures.1 in
    let dir = (setup_of c.args.repo.now).settings.git_dir in
    let made = c.in_ok-taken.ensures.files in
    let gone = c.in_err-status.ensures.refused in
    rw (p.1, p.2, gone.1) (record {
      may_fail = c.in_err-status.ensures.may_fail ∙ made.may_fail;
      counts = Counts-then _ _ _ made.counts c.in_err-status.ensures.counts;
      cause = λ _. Rose-earlier (g.F.Files.faults c.args.files.now) (g.F.Files.faults c.take_reply.new.files) (g.F.Files.faults c.status.new.files) made.counts c.in_err-status.ensures.cause;
      in_the_way = λ path is. absurd (cc);
      removable = λ is never. removable _ _ _ dir c.args.options.now.dry_run c.args.exchange.received c.in_ok-updates.updates c.in_ok-taken.taken c.in_err-status.field-0.0 c.in_ok-taken.ensures.told c.in_ok-taken.ensures.made c.in_err-status.ensures.in_the_way c.in_err-status.ensures.refused (made.may_fail ∙ never);
    })

pub returns-in_err-status-clause-worktrees : goal.returns-in_err-status-clause-worktrees
returns-in_err-status-clause-worktrees g c =
    let p = err_from_is_err_and c.from_residual-in_err-status.result c.from_residual-in_err-status.ensures.1 in
    rw (p.1, p.2, c.in_err-status.ensures.refused.1) c.in_ok-updates.ensures.worktrees

pub returns-in_err-move_refs-clause-files : goal.returns-in_err-move_refs-clause-files
returns-in_err-move_refs-clause-files g c =
    let p = err_from_is_err_and c.from_residual-in_err-move_refs.result c.from_residual-in_err-move_refs.ensures.1 in
    rw (p.1, p.2) c.in_ok-taken.ensures.files

pub returns-in_err-move_refs-clause-worktrees : goal.returns-in_err-move_refs-clause-worktrees
returns-in_err-move_refs-clause-worktrees g c =
    let p = err_from_is_err_and c.from_residual-in_err-move_refs.result c.from_residual-in_err-move_refs.ensures.1 in
    rw (p.1, p.2) c.in_ok-updates.ensures.worktrees

pub returns-in_err-taken-clause-untouched : goal.returns-in_err-taken-clause-untouched
returns-in_err-taken-clause-untouched g c =
    let p = err_from_is_err_and c.from_residual.result c.from_residual.ensures.1 in
    rw (p.1, p.2) (record {
      dry = λ is. c.in_err-taken.ensures.unread (dry_none c.args.options.now.dry_run c.args.exchange.received is);
      unread = tt;
      early = c.in_err-taken.ensures.early;
    })

pub returns-in_err-updates-clause-untouched : goal.returns-in_err-updates-clause-untouched
returns-in_err-updates-clause-untouched g c =
    let p = err_from_is_err_and c.from_residual-in_err-updates.result c.from_residual-in_err-updates.ensures.1 in
    rw (p.1, p.2) (record {
      dry = λ is. c.in_ok-taken.ensures.unread (dry_none c.args.options.now.dry_run c.args.exchange.received is);
      unread = tt;
      early = λ early. absurd (never_early c.in_err-updates.field-0.0 c.in_err-updates.ensures.only early);
    })

pub returns-in_err-move_refs-clause-untouched : goal.returns-in_err-move_refs-clause-untouched
returns-in_err-move_refs-clause-untouched g c =
    let p = err_from_is_err_and c.from_residual-in_err-move_refs.result c.from_residual-in_err-move_refs.ensures.1 in
    rw (p.1, p.2) (record {
      dry = λ is. c.in_ok-taken.ensures.unread (dry_none c.args.options.now.dry_run c.args.exchange.received is);
      unread = tt;
      early = λ early. absurd (cc);
    })

pub returns-in_err-status-clause-untouched : goal.returns-in_err-status-clause-untouched
returns-in_err-status-clause-untouched g c =
    let p = err_from_is_err_and c.from_residual-in_err-status.result c.from_residual-in_err-status.ensures.1 in
    let dir = (setup_of c.args.repo.now).settings.git_dir in
    let dry = c.args.options.now.dry_run in
    let r = c.args.exchange.received in
    rw (p.1, p.2, c.in_err-status.ensures.refused.1) (record {
      dry = λ is. c.in_err-status.ensures.unread (rw c.in_ok-taken.ensures.told (kept_none dir dry r (dry_none dry r is))) ∙ c.in_ok-taken.ensures.unread (dry_none dry r is);
      unread = tt;
      early = λ early. absurd (cc);
    })

pub returns-clause-untouched : goal.returns-clause-untouched
returns-clause-untouched g c =
    let told = rw c.in_ok-taken.ensures.told at c.in_ok-status.ensures.told in
    let dir = (setup_of c.args.repo.now).settings.git_dir in
    let dry = c.args.options.now.dry_run in
    let r = c.args.exchange.received in
    let u = c.in_ok-updates.updates in
    record {
      dry = λ is. c.in_ok-status.ensures.unread (rw c.in_ok-taken.ensures.told (kept_none dir dry r (dry_none dry r is))) ∙ c.in_ok-taken.ensures.unread (dry_none dry r is);
      unread = λ none.
          let no_pack = made_none dir dry r (sym (made_is dir dry r u) ∙ sym (ap (λ (s : Status). made_in dir s) (told ∙ status_is dir dry r u)) ∙ none) in
          c.in_ok-status.ensures.unread (rw c.in_ok-taken.ensures.told (kept_none dir dry r no_pack)) ∙ c.in_ok-taken.ensures.unread no_pack;
      early = tt;
    }

pub move_refs-requires : goal.move_refs-requires
move_refs-requires g c =
    let j = c.in_ok-updates.ensures.judged in
    record { found = rw c.as_slice-2.ensures (finds_all (state_of c.take_reply.new.repo) c.args.options.now j.trees _ c.in_ok-updates.updates j.by) }
