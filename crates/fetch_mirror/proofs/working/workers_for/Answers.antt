use Rattle.fetch_mirror.proofs.Manned.{manned}
use Rattle.fetch_mirror.proofs.working.workers_for.Goals as goal

pub returns : goal.returns
returns c =
    let shares = c.in_ok-share.field-0 in
    let job_runs = c.in_ok-job_runs_of.field-0.items in
    manned c.args.workers c.args.bound c.args.names.now shares job_runs c.in_ok-share.ensures.shares
    (let t = c.truncate.ensures.items in let v = c.into_vec-shares.ensures in let r = c.in_ok-job_runs_of.ensures in cc)
