use Rattle.fetch_disk.specs.Disk.{Shortened}
use Rattle.fetch_disk.proofs.Moments.{changed, synced, shortened_same}
use Rattle.fetch_disk.proofs.steps.cut_durable.Goals as goal

pub returns-in_err-cut-clause-any_moment : goal.returns-in_err-cut-clause-any_moment
returns-in_err-cut-clause-any_moment g c =
    let v = g.D.Volume in
    changed v.moment v.left_since v.may_leave v.only_now c.args.disk.now c.cut.new.self (Shortened c.args.len) (shortened_same c.args.len) c.cut.ensures.time c.cut.ensures.crash

pub returns-clause-crash : goal.returns-clause-crash
returns-clause-crash g c l is = c.cut.ensures.crash l (c.sync.ensures.crash l is)

pub returns-clause-any_moment : goal.returns-clause-any_moment
returns-clause-any_moment g c =
    let v = g.D.Volume in
    synced v.moment v.left_since v.may_leave v.only_now c.args.disk.now c.cut.new.self c.sync.new.self (Shortened c.args.len) (shortened_same c.args.len)
    c.cut.ensures.time c.cut.ensures.crash c.sync.ensures.time c.sync.ensures.crash
