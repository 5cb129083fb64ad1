use Rattle.std.proofs.Common.{ℕ, ◌+◌, ◌<◌, length, refl, subst, sym, ◌∙◌, arith}
use Rattle.fetch_negotiate.specs.declared.frontier.Frontier.{Frontier}
use Rattle.fetch_negotiate.specs.Commits.{commit_of}
use Rattle.fetch_negotiate.specs.Reading.{read_in}
use Rattle.fetch_negotiate.proofs.Growing.{grows_then}
use Rattle.fetch_negotiate.proofs.Queueing.{IsEntering, entering_further, line_in_grown, line_in_requeued, line_in_entered, line_in_passed, rank_of}
use Rattle.fetch_negotiate.proofs.Ranking.{Puts, puts}
use Rattle.fetch_negotiate.proofs.frontier.enter.Goals as goal
use Rattle.fetch_negotiate.proofs.frontier.enter.Goals.{then-stored+in_ok-insert, else-stored}

pub returns-in_err-stored-clause-frontier : goal.returns-in_err-stored-clause-frontier
returns-in_err-stored-clause-frontier g c =
    line_in_grown (read_in c.candidates.table) (read_in c.read.new.table) c.args.border.now c.args.common.now.commits.items c.candidates.frontier c.in_err-stored.ensures.grows c.candidates.invariant.frontier

pub returns-in_err-stored-clause-grows : goal.returns-in_err-stored-clause-grows
returns-in_err-stored-clause-grows g c = grows_then (read_in c.args.table.now) (read_in c.candidates.table) (read_in c.read.new.table) c.candidates.invariant.grows c.in_err-stored.ensures.grows

pub returns-in_err-insert-clause-frontier : goal.returns-in_err-insert-clause-frontier
returns-in_err-insert-clause-frontier g c =
    line_in_requeued (read_in c.read.new.table) c.args.border.now c.args.common.now.commits.items c.candidates.frontier c.insert.new.self c.in_err-insert.ensures.err
    (line_in_grown (read_in c.candidates.table) (read_in c.read.new.table) c.args.border.now c.args.common.now.commits.items c.candidates.frontier c.in_ok-stored.ensures.grows c.candidates.invariant.frontier)

pub returns-in_err-insert-clause-grows : goal.returns-in_err-insert-clause-grows
returns-in_err-insert-clause-grows g c = grows_then (read_in c.args.table.now) (read_in c.candidates.table) (read_in c.read.new.table) c.candidates.invariant.grows c.in_ok-stored.ensures.grows

pub candidates-preserved : goal.candidates-preserved
candidates-preserved g c =
    let k = read_in c.args.table.now in
    let l = read_in c.candidates.table in
    let m = read_in c.read.new.table in
    let border = c.args.border.now in
    let commits = c.args.common.now.commits.items in
    let x : Frontier = c.candidates.frontier in
    let h = g.O.Objects.graph c.args.objects.now in
    let r = c.in_ok-stored.ensures in
    let id = c.index.result.now in
    let told = commit_of h id in
    let less : x.entered < length x.candidates.items = omega (arith, c.len.ensures, c.candidates-test.true) in
    let before = line_in_grown l m border commits x r.grows c.candidates.invariant.frontier in
    elim c.if-stored.branch [
      | then-stored+in_ok-insert w ↦
          let put = puts x.queue w.insert.new.self (rank_of w.seconds.result id) w.in_ok-insert.ensures.updates in
          subst (λ (y : Frontier). IsEntering k m border commits c.args.frontier.now (record y { entered = y.entered + 1 }) h) (sym w.frontier-is)
          (entering_further k l m border commits c.args.frontier.now x (record x { queue = w.insert.new.self; entered = x.entered + 1 }) h c.candidates.invariant
          (line_in_entered m border commits x w.insert.new.self id told less c.index.ensures r.found (sym r.stored ∙ w.if-stored.true)
          (subst (λ (s : ℕ). Puts x.queue w.insert.new.self (rank_of s id)) w.seconds.ensures put) before)
          r.told r.grows refl refl refl)
      | else-stored w ↦
          subst (λ (y : Frontier). IsEntering k m border commits c.args.frontier.now (record y { entered = y.entered + 1 }) h) (sym w.frontier-is)
          (entering_further k l m border commits c.args.frontier.now x (record x { entered = x.entered + 1 }) h c.candidates.invariant
          (line_in_passed m border commits x id told less c.index.ensures r.found (sym r.stored ∙ w.if-stored.false) before)
          r.told r.grows refl refl refl)
    ]
