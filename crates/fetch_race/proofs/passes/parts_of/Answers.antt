use Rattle.std.proofs.Common.{List, ◌++◌, length, sym, ap, ◌∙◌}
use Rattle.std.specs.Vec.Iter.{into_iter_items}
use Rattle.fetch_race.specs.declared.job.JobRun.{JobRun}
use Rattle.fetch_race.proofs.Rows.{next_at}
use Rattle.fetch_race.proofs.passes.parts_of.Goals as goal

pub unwrap-answer-requires : goal.unwrap-answer-requires
unwrap-answer-requires g c =
    let front = c.loop-job_run.yielded in
    let all = ap (λ (rest : List (JobRun g.row.P.Denot)). front ++ rest) (sym c.in-Some.ensures.steps.0) ∙ c.loop-job_run.invariant.split in
    c.requires.answered (length front) c.in-Some.job_run (next_at front (into_iter_items c.next.new.self) c.args.job_runs.items c.in-Some.job_run all)
