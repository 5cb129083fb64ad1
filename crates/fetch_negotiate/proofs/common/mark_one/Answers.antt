use Rattle.std.proofs.Common.{Option, sym, ap, ◌∙◌}
use Rattle.std.specs.Prelude.{is_some}
use Rattle.fetch_negotiate.specs.declared.commits.Commit.{Commit}
use Rattle.fetch_negotiate.specs.Commits.{commit_of}
use Rattle.fetch_negotiate.specs.Reading.{read_in}
use Rattle.fetch_negotiate.proofs.Commons.{common_in_grown, common_in_kept, common_in_marked, found_at, done_marked, has_marked}
use Rattle.fetch_negotiate.proofs.common.mark_one.Goals as goal

pub returns-in_err-stored-clause-common : goal.returns-in_err-stored-clause-common
returns-in_err-stored-clause-common g c = λ border is within.
    common_in_grown (read_in c.args.table.now) (read_in c.read.new.table) border c.args.common.now c.in_err-stored.ensures.grows is

pub returns-then-not-stored-clause-common : goal.returns-then-not-stored-clause-common
returns-then-not-stored-clause-common g c = λ border is within.
    common_in_grown (read_in c.args.table.now) (read_in c.read.new.table) border c.args.common.now c.in_ok-stored.ensures.grows is

pub returns-in_err-mark-clause-common : goal.returns-in_err-mark-clause-common
returns-in_err-mark-clause-common g c = λ border is within.
    let e = c.in_err-mark.ensures in
    common_in_kept (read_in c.read.new.table) border c.args.common.now c.mark.new.common e.marked e.err e.acknowledged e.finished e.closed
    (common_in_grown (read_in c.args.table.now) (read_in c.read.new.table) border c.args.common.now c.in_ok-stored.ensures.grows is)

pub returns-clause-common : goal.returns-clause-common
returns-clause-common g c = λ border is within.
    let l = read_in c.read.new.table in
    let e = c.in_ok-mark.ensures in
    let r = c.in_ok-stored.ensures in
    let stored = ap (λ (o : Option Commit). is_some o) (found_at (l c.args.id.now) (commit_of (g.O.Objects.graph c.args.objects.now) c.args.id.now) r.found) ∙ sym r.stored ∙ c.if-not-stored.false in
    common_in_marked l border c.args.common.now c.mark.new.common c.args.id.now stored (within.later l r.grows stored) e.marked e.ok e.acknowledged e.finished e.closed
    (common_in_grown (read_in c.args.table.now) l border c.args.common.now r.grows is)

pub returns-clause-done : goal.returns-clause-done
returns-clause-done g c =
    done_marked (read_in c.read.new.table) c.mark.new.common.commits.items c.args.id.now (commit_of (g.O.Objects.graph c.args.objects.now) c.args.id.now) c.in_ok-stored.ensures.found
    (has_marked c.args.common.now.commits.items c.mark.new.common.commits.items c.args.id.now c.in_ok-mark.ensures.ok)
