use Rattle.std.proofs.Common.{length}
use Rattle.fetch_disk.specs.Disk.{Torn}
use Rattle.fetch_disk.proofs.Moments.{changed, synced, torn_same}
use Rattle.fetch_disk.proofs.steps.write_durable.Goals as goal

pub returns-in_err-write_at-clause-any_moment : goal.returns-in_err-write_at-clause-any_moment
returns-in_err-write_at-clause-any_moment g c =
    let v = g.D.Volume in
    changed v.moment v.left_since v.may_leave v.only_now c.args.disk.now c.write_at.new.self (Torn c.args.at (length c.args.bytes.now)) (torn_same c.args.at (length c.args.bytes.now)) c.write_at.ensures.time c.write_at.ensures.crash

pub returns-clause-crash : goal.returns-clause-crash
returns-clause-crash g c l is = c.write_at.ensures.crash l (c.sync.ensures.crash l is)

pub returns-clause-any_moment : goal.returns-clause-any_moment
returns-clause-any_moment g c =
    let v = g.D.Volume in
    synced v.moment v.left_since v.may_leave v.only_now c.args.disk.now c.write_at.new.self c.sync.new.self (Torn c.args.at (length c.args.bytes.now)) (torn_same c.args.at (length c.args.bytes.now))
    c.write_at.ensures.time c.write_at.ensures.crash c.sync.ensures.time c.sync.ensures.crash
