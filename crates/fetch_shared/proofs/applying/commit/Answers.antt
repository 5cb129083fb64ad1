use Rattle.std.proofs.Common.{refl, inl}
use Rattle.fetch_shared.proofs.Moved.{committed, uncommitted}
use Rattle.fetch_shared.proofs.Saw.{back_self}
use Rattle.fetch_shared.proofs.applying.commit.Goals as goal

pub returns-then-dry_run-clause-back : goal.returns-then-dry_run-clause-back
returns-then-dry_run-clause-back g c = back_self c.args.pass

pub returns-then-dry_run-clause-moved : goal.returns-then-dry_run-clause-moved
returns-then-dry_run-clause-moved g c = rw c.if-dry_run.true (refl, refl)

pub returns-in-Err-clause-back : goal.returns-in-Err-clause-back
returns-in-Err-clause-back g c = back_self c.args.pass

pub returns-in-Err-clause-refused : goal.returns-in-Err-clause-refused
returns-in-Err-clause-refused g c = record { none = refl; why = inl refl }

pub returns-in-Ok-answer-clause-moved : goal.returns-in-Ok-answer-clause-moved
returns-in-Ok-answer-clause-moved g c =
    let s = c.commit-pass.ensures in
    let e = c.in-Ok.ensures in
    let t = rw (e.edits, e.committer, c.settings.ensures.settings, c.in-Ok-answer.is) at s.turn in
    let at = rw (e.edits, e.committer, c.settings.ensures.settings, c.in-Ok-answer.is) at s.place in
    let added = rw (e.edits, e.committer, c.settings.ensures.settings, c.in-Ok-answer.is) at s.added in
    rw c.if-dry_run.false (committed _ _ _ _ c.in-Ok-answer.place t at added)

pub returns-in-Err-answer-clause-refused : goal.returns-in-Err-answer-clause-refused
returns-in-Err-answer-clause-refused g c =
    let s = c.commit-pass.ensures in
    let e = c.in-Ok.ensures in
    let t = rw (e.edits, e.committer, c.settings.ensures.settings, c.in-Err-answer.is) at s.turn in
    let none = rw c.in-Err-answer.is at s.none in
    uncommitted _ _ _ _ c.args.dry_run c.in-Err-answer.e c.if-dry_run.false s.back t none
