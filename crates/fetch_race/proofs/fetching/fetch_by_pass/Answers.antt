use Rattle.fetch_race.specs.declared.job.Job.{Job}
use Rattle.fetch_race.specs.Racing.{Race}
use Rattle.fetch_race.proofs.Fetched.{forgot}
use Rattle.fetch_race.proofs.fetching.fetch_by_pass.Goals as goal

pub returns-in-Ok : goal.returns-in-Ok
returns-in-Ok g c = rw (c.in-Ok.ensures.options, c.in-Ok.ensures.worktrees) at c.fetch.ensures

pub returns-in-Err : goal.returns-in-Err
returns-in-Err g c =
    let race : Race g.row.P.Denot = record { answers = g.P.Peer.answers; told = g.P.Peer.told; faults = g.P.Peer.faults; trees = c.args.worktrees.now; opening = c.args.shared.now.opening } in
    let job : Job g.row.P.Denot = record { remote = c.args.remote.now; peer = c.args.peer.now; options = c.args.options.now } in
    rw c.number-number.ensures (forgot race job c.args.pass)
