use Rattle.std.proofs.Common.{◌≡◌, false, true, refl, sym, ap, ◌∙◌}
use Rattle.fetch_base.specs.Faults.{Counts-then, Rose-earlier}
use Rattle.fetch_conversation.specs.ListStage.{shown}
use Rattle.fetch_remote.specs.declared.fetching.outcome.Outcome.{Outcome}
use Rattle.fetch_remote.proofs.Blamed.{files_still, files_as, trees_still, trees_as}
use Rattle.fetch_remote.proofs.Keeping.{dry_none}
use Rattle.fetch_shared.specs.Applying.{Matter}
use Rattle.fetch_shared.proofs.Back.{back_trans}
use Rattle.fetch_journal.proofs.Journals.{begins_self}
use Rattle.fetch_shared.proofs.Owned.{unbrought_own, unmoved_own, unmoved_late, judging_late, own_keep, own_trees}
use Rattle.fetch_shared.proofs.Applied.{unbrought, stopped, unmoved, unreleased, settles, removable_by, kept_nothing, read_nothing}
use Rattle.fetch_shared.proofs.Told.{receiving_keeps, receiving_trees}
use Rattle.fetch_shared.proofs.applying.apply_in_turns.Goals as goal

-- a refusal that isn't early
apart : false ≡ true → ⊥
apart is = cc

pub returns-in-Err-clause-refused : goal.returns-in-Err-clause-refused
returns-in-Err-clause-refused g c =
    let m : Matter = record { setup = c.args.shared.now.opening.setup; options = c.args.options.now; wants = c.args.exchange.wants; told = record { listed = shown c.args.exchange.listed; received = c.args.exchange.received } } in
    let of_kind = rw (← c.requires.shared) at c.requires.of_kind in
    unbrought m c.args.pass _ (g.W.Worktrees.told c.args.worktrees.now) (g.F.Files.told c.args.files.now) _ of_kind c.requires.named (rw c.as_slice-wants.ensures at c.in-Err.ensures.refused)

pub returns-in-Err-judge_over-clause-refused : goal.returns-in-Err-judge_over-clause-refused
returns-in-Err-judge_over-clause-refused g c =
    let m : Matter = record { setup = c.args.shared.now.opening.setup; options = c.args.options.now; wants = c.args.exchange.wants; told = record { listed = shown c.args.exchange.listed; received = c.args.exchange.received } } in
    let b = rw c.as_slice-wants.ensures at c.in-Ok.ensures.pack_taken in
    let h = rw (c.settings-settings.ensures.settings, c.found-ref_map.ensures) at c.in-Err-judge_over.ensures.stopped in
    rw c.unreceived.ensures (stopped m c.args.pass c.in-Ok.pack_taken.0 c.in-Ok.pack_taken.0 (g.W.Worktrees.told c.args.worktrees.now) (g.F.Files.told c.args.files.now) (g.F.Files.told c.judge_over.new.files) c.in-Ok.pack_taken.1 b (begins_self c.in-Ok.pack_taken.0.front) refl c.in-Err-judge_over.stop h)

pub returns-in-Err-commit-clause-refused : goal.returns-in-Err-commit-clause-refused
returns-in-Err-commit-clause-refused g c =
    let m : Matter = record { setup = c.args.shared.now.opening.setup; options = c.args.options.now; wants = c.args.exchange.wants; told = record { listed = shown c.args.exchange.listed; received = c.args.exchange.received } } in
    let v = rw (c.settings-settings.ensures.settings, c.found-ref_map.ensures) at c.in-Ok-judge_over.ensures.verdicts in
    let h = rw c.as_slice-edits.ensures at c.in-Err-commit.ensures.refused in
    unmoved m c.args.pass c.in-Ok.pack_taken.0 _ (g.W.Worktrees.told c.args.worktrees.now) (g.F.Files.told c.args.files.now) (g.F.Files.told c.judge_over.new.files) c.in-Ok.pack_taken.1 (rw c.as_slice-wants.ensures at c.in-Ok.ensures.pack_taken) c.in-Ok-judge_over.verdicts
    (g.F.Files.told c.judge_over.new.files) v c.in-Ok.ensures.back c.in-Err-commit.ensures.back _ refl h

pub returns-in-Ok-outcome-clause-applied : goal.returns-in-Ok-outcome-clause-applied
returns-in-Ok-outcome-clause-applied g c =
    let m : Matter = record { setup = c.args.shared.now.opening.setup; options = c.args.options.now; wants = c.args.exchange.wants; told = record { listed = shown c.args.exchange.listed; received = c.args.exchange.received } } in
    let v = rw (c.settings-settings.ensures.settings, c.found-ref_map.ensures) at c.in-Ok-judge_over.ensures.verdicts in
    let moved = rw c.as_slice-edits.ensures at c.in-Ok-commit.ensures.moved in
    settles m c.args.pass c.in-Ok.pack_taken.0 _ (g.W.Worktrees.told c.args.worktrees.now) (g.F.Files.told c.args.files.now) (g.F.Files.told c.outcome.new.files) c.in-Ok.pack_taken.1 (rw c.as_slice-wants.ensures at c.in-Ok.ensures.pack_taken) c.in-Ok-judge_over.verdicts
    (g.F.Files.told c.judge_over.new.files) v c.in-Ok.ensures.back c.in-Ok-commit.ensures.back _ _ _ c.in-Ok-outcome.outcome moved c.found-ref_map.ensures c.in-Ok-outcome.ensures.told c.in-Ok-outcome.ensures.removed

pub returns-clause-refused : goal.returns-clause-refused
returns-clause-refused g c =
    let m : Matter = record { setup = c.args.shared.now.opening.setup; options = c.args.options.now; wants = c.args.exchange.wants; told = record { listed = shown c.args.exchange.listed; received = c.args.exchange.received } } in
    let v = rw (c.settings-settings.ensures.settings, c.found-ref_map.ensures) at c.in-Ok-judge_over.ensures.verdicts in
    let moved = rw c.as_slice-edits.ensures at c.in-Ok-commit.ensures.moved in
    unreleased m c.args.pass c.in-Ok.pack_taken.0 _ (g.W.Worktrees.told c.args.worktrees.now) (g.F.Files.told c.args.files.now) (g.F.Files.told c.outcome.new.files) c.in-Ok.pack_taken.1 (rw c.as_slice-wants.ensures at c.in-Ok.ensures.pack_taken) c.in-Ok-judge_over.verdicts
    (g.F.Files.told c.judge_over.new.files) v c.in-Ok.ensures.back c.in-Ok-commit.ensures.back _ _ moved c.in-Err-outcome.ensures.refused c.in-Err-outcome.ensures.stands

pub returns-in-Err-commit-clause-back : goal.returns-in-Err-commit-clause-back
returns-in-Err-commit-clause-back g c = back_trans _ _ _ c.in-Ok.ensures.back c.in-Err-commit.ensures.back

pub returns-in-Ok-outcome-clause-back : goal.returns-in-Ok-outcome-clause-back
returns-in-Ok-outcome-clause-back g c = back_trans _ _ _ c.in-Ok.ensures.back c.in-Ok-commit.ensures.back

pub returns-clause-back : goal.returns-clause-back
returns-clause-back g c = back_trans _ _ _ c.in-Ok.ensures.back c.in-Ok-commit.ensures.back

-- ---- who is blamed

pub returns-in-Err-clause-files : goal.returns-in-Err-clause-files
returns-in-Err-clause-files g c = files_still _ _ (own_keep c.in-Err.e (λ x is. unbrought_own _ _ _ _ _ _ x c.in-Err.ensures.refused is))

pub returns-in-Err-clause-worktrees : goal.returns-in-Err-clause-worktrees
returns-in-Err-clause-worktrees g c = trees_still _ _ (own_trees c.in-Err.e (λ x is. unbrought_own _ _ _ _ _ _ x c.in-Err.ensures.refused is))

pub returns-in-Err-judge_over-clause-files : goal.returns-in-Err-judge_over-clause-files
returns-in-Err-judge_over-clause-files g c = rw c.unreceived.ensures (files_as _ _ _ _ (receiving_keeps c.in-Err-judge_over.stop.cause) c.in-Err-judge_over.ensures.files)

pub returns-in-Err-judge_over-clause-worktrees : goal.returns-in-Err-judge_over-clause-worktrees
returns-in-Err-judge_over-clause-worktrees g c = rw c.unreceived.ensures (trees_as _ _ _ _ (receiving_trees c.in-Err-judge_over.stop.cause) c.in-Err-judge_over.ensures.worktrees)

pub returns-in-Err-commit-clause-files : goal.returns-in-Err-commit-clause-files
returns-in-Err-commit-clause-files g c =
    files_as _ _ _ _ (sym (own_keep c.in-Err-commit.e (λ x is. unmoved_own _ _ _ _ _ _ x c.in-Err-commit.ensures.refused is))) c.in-Ok-judge_over.ensures.files

pub returns-in-Err-commit-clause-worktrees : goal.returns-in-Err-commit-clause-worktrees
returns-in-Err-commit-clause-worktrees g c =
    trees_as _ _ _ _ (sym (own_trees c.in-Err-commit.e (λ x is. unmoved_own _ _ _ _ _ _ x c.in-Err-commit.ensures.refused is))) c.in-Ok-judge_over.ensures.worktrees

pub returns-clause-files : goal.returns-clause-files
returns-clause-files g c =
    let m : Matter = record { setup = c.args.shared.now.opening.setup; options = c.args.options.now; wants = c.args.exchange.wants; told = record { listed = shown c.args.exchange.listed; received = c.args.exchange.received } } in
    let v = rw (c.settings-settings.ensures.settings, c.found-ref_map.ensures) at c.in-Ok-judge_over.ensures.verdicts in
    let made = c.in-Ok-judge_over.ensures.files in
    let gone = c.in-Err-outcome.ensures.refused in
    rw gone.1 (record {
      may_fail = c.in-Err-outcome.ensures.may_fail ∙ made.may_fail;
      counts = Counts-then _ _ _ made.counts c.in-Err-outcome.ensures.counts;
      cause = λ _. Rose-earlier (g.F.Files.faults c.args.files.now) (g.F.Files.faults c.judge_over.new.files) (g.F.Files.faults c.outcome.new.files) made.counts c.in-Err-outcome.ensures.cause;
      in_the_way = λ path is. absurd (cc);
      removable = λ is never.
          removable_by m c.args.pass c.in-Ok.pack_taken.0 c.in-Ok-commit.committed.0 (g.W.Worktrees.told c.args.worktrees.now) (g.F.Files.told c.args.files.now) (g.F.Files.told c.outcome.new.files) c.in-Ok.pack_taken.1 (rw c.as_slice-wants.ensures at c.in-Ok.ensures.pack_taken)
          c.in-Ok-judge_over.verdicts (g.F.Files.told c.judge_over.new.files) v c.in-Ok.ensures.back c.in-Ok-commit.ensures.back _ gone.0 c.in-Err-outcome.ensures.in_the_way gone.2 (made.may_fail ∙ never);
    })

pub returns-clause-worktrees : goal.returns-clause-worktrees
returns-clause-worktrees g c = rw c.in-Err-outcome.ensures.refused.1 c.in-Ok-judge_over.ensures.worktrees

-- ---- a dry run, and a refusal before the keep file is made

pub returns-in-Err-judge_over-clause-untouched : goal.returns-in-Err-judge_over-clause-untouched
returns-in-Err-judge_over-clause-untouched g c = record {
  dry = λ dry. c.in-Err-judge_over.ensures.unread (c.in-Ok.ensures.pack_taken.pack ∙ dry_none c.args.options.now.dry_run c.args.exchange.received dry);
  unread = tt;
  early = λ early. absurd (judging_late c.in-Err-judge_over.stop.cause c.unreceived.result c.unreceived.ensures c.in-Err-judge_over.ensures.only early);
}

pub returns-in-Err-commit-clause-untouched : goal.returns-in-Err-commit-clause-untouched
returns-in-Err-commit-clause-untouched g c = record {
  dry = λ dry. c.in-Ok-judge_over.ensures.unread (c.in-Ok.ensures.pack_taken.pack ∙ dry_none c.args.options.now.dry_run c.args.exchange.received dry);
  unread = tt;
  early = λ early. absurd (unmoved_late _ _ _ _ _ _ c.in-Err-commit.ensures.refused early);
}

pub returns-in-Err-clause-untouched : goal.returns-in-Err-clause-untouched
returns-in-Err-clause-untouched g c = record { dry = λ _. refl; unread = tt; early = λ _. refl }

-- ---- all is done

pub returns-in-Ok-outcome-clause-files : goal.returns-in-Ok-outcome-clause-files
returns-in-Ok-outcome-clause-files g c =
    let made = c.in-Ok-judge_over.ensures.files in
    record {
      may_fail = c.in-Ok-outcome.ensures.may_fail ∙ made.may_fail;
      counts = Counts-then _ _ _ made.counts c.in-Ok-outcome.ensures.counts;
      cause = λ is. absurd (cc);
      in_the_way = λ path is. absurd (cc);
      removable = λ is never. absurd (cc);
    }

pub returns-in-Ok-outcome-clause-worktrees : goal.returns-in-Ok-outcome-clause-worktrees
returns-in-Ok-outcome-clause-worktrees g c = c.in-Ok-judge_over.ensures.worktrees

pub returns-in-Ok-outcome-clause-untouched : goal.returns-in-Ok-outcome-clause-untouched
returns-in-Ok-outcome-clause-untouched g c =
    let m : Matter = record { setup = c.args.shared.now.opening.setup; options = c.args.options.now; wants = c.args.exchange.wants; told = record { listed = shown c.args.exchange.listed; received = c.args.exchange.received } } in
    let v = rw (c.settings-settings.ensures.settings, c.found-ref_map.ensures) at c.in-Ok-judge_over.ensures.verdicts in
    let b = rw c.as_slice-wants.ensures at c.in-Ok.ensures.pack_taken in
    let nothing = kept_nothing m c.args.pass c.in-Ok.pack_taken.0 c.in-Ok-commit.committed.0 (g.W.Worktrees.told c.args.worktrees.now) (g.F.Files.told c.args.files.now) (g.F.Files.told c.outcome.new.files) c.in-Ok.pack_taken.1 b c.in-Ok-judge_over.verdicts (g.F.Files.told c.judge_over.new.files) v c.in-Ok.ensures.back c.in-Ok-commit.ensures.back in
    let read = read_nothing m c.args.pass c.in-Ok.pack_taken.0 c.in-Ok-commit.committed.0 (g.W.Worktrees.told c.args.worktrees.now) (g.F.Files.told c.args.files.now) (g.F.Files.told c.outcome.new.files) c.in-Ok.pack_taken.1 b c.in-Ok-judge_over.verdicts (g.F.Files.told c.judge_over.new.files) v c.in-Ok.ensures.back c.in-Ok-commit.ensures.back in
    record {
      dry = λ dry.
          let no = dry_none c.args.options.now.dry_run c.args.exchange.received dry in
          c.in-Ok-outcome.ensures.unread (nothing no) ∙ c.in-Ok-judge_over.ensures.unread (b.pack ∙ no);
      unread = λ none.
          let no = read c.in-Ok-outcome.outcome.status (ap (λ (o : Outcome). o.status) c.in-Ok-outcome.ensures.told) none in
          c.in-Ok-outcome.ensures.unread (nothing no) ∙ c.in-Ok-judge_over.ensures.unread (b.pack ∙ no);
      early = tt;
    }

pub returns-clause-untouched : goal.returns-clause-untouched
returns-clause-untouched g c =
    let m : Matter = record { setup = c.args.shared.now.opening.setup; options = c.args.options.now; wants = c.args.exchange.wants; told = record { listed = shown c.args.exchange.listed; received = c.args.exchange.received } } in
    let v = rw (c.settings-settings.ensures.settings, c.found-ref_map.ensures) at c.in-Ok-judge_over.ensures.verdicts in
    let b = rw c.as_slice-wants.ensures at c.in-Ok.ensures.pack_taken in
    let nothing = kept_nothing m c.args.pass c.in-Ok.pack_taken.0 c.in-Ok-commit.committed.0 (g.W.Worktrees.told c.args.worktrees.now) (g.F.Files.told c.args.files.now) (g.F.Files.told c.outcome.new.files) c.in-Ok.pack_taken.1 b c.in-Ok-judge_over.verdicts (g.F.Files.told c.judge_over.new.files) v c.in-Ok.ensures.back c.in-Ok-commit.ensures.back in
    rw c.in-Err-outcome.ensures.refused.1 (record {
      dry = λ dry.
          let no = dry_none c.args.options.now.dry_run c.args.exchange.received dry in
          c.in-Err-outcome.ensures.unread (nothing no) ∙ c.in-Ok-judge_over.ensures.unread (b.pack ∙ no);
      unread = tt;
      early = λ early. absurd (apart early);
    })
