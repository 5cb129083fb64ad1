use Rattle.std.proofs.Common.{List, subst, ◌∙◌, arith}
use Rattle.std.proofs.lemmas.Result.{IfOk-weaker}
use Rattle.fetch_journal.specs.Replays.{outline}
use Rattle.race_cli.specs.RaceReports.{IsRaceReport, IsRefusedReport}
use Rattle.race_cli.specs.RaceRun.{AreSetUp, IsRaceOf}
use Rattle.race_cli.specs.RaceCases.{opening_of}
use Rattle.race_cli.specs.declared.race_case.JobCase.{JobCase}
use Rattle.race_cli.proofs.Raced.{few_set_up, repository_is, raced_told, refused_told}
use Rattle.race_cli.proofs.running.raced.Goals as goal

pub race_with-requires-clause-few : goal.race_with-requires-clause-few
race_with-requires-clause-few g c κs within =
    let jobs = c.in_ok-jobs.jobs in
    let few = few_set_up c.args.scene c.in_ok-opened_case.opened_case.jobs jobs.items c.requires.few c.in_ok-opened_case.ensures.jobs c.in_ok-jobs.ensures in
    (omega (arith, jobs.ok.0, few.0), omega (arith, jobs.ok.0, few.1))

pub returns-in-Ok : goal.returns-in-Ok
returns-in-Ok g c =
    let scene = c.args.scene in
    let opened_case = c.in_ok-opened_case.opened_case in
    let repo_is = repository_is opened_case.repo (opening_of scene) c.in_ok-opened_case.ensures.state c.in_ok-opened_case.ensures.setup in
    let trees_are = c.as_slice.ensures ∙ c.in_ok-opened_case.ensures.worktrees in
    let jobs = c.in_ok-jobs.jobs.items in
    let set_up = subst (λ (s : List JobCase). AreSetUp s jobs) c.in_ok-opened_case.ensures.jobs c.in_ok-jobs.ensures in
    let journal = c.as_slice-in-Ok in
    let answers = c.as_slice-in-Ok-2 in
    IfOk-weaker c.race_report.result (λ x. IsRaceReport journal.result.now (outline c.in-Ok.raced.repo) answers.result.now x.0 x.1.items) (λ x. IsRaceOf scene x.0 x.1.items)
    (λ x report. raced_told scene opened_case.repo c.as_slice.result.now repo_is trees_are jobs c.in-Ok.raced c.race_with.result set_up c.in-Ok.ensures.raced c.in-Ok.is c.race_with.ensures.closed
    journal.result.now answers.result.now journal.ensures answers.ensures x.0 x.1.items report)
    c.race_report.ensures

pub returns : goal.returns
returns g c =
    let scene = c.args.scene in
    let opened_case = c.in_ok-opened_case.opened_case in
    let repo_is = repository_is opened_case.repo (opening_of scene) c.in_ok-opened_case.ensures.state c.in_ok-opened_case.ensures.setup in
    let trees_are = c.as_slice.ensures ∙ c.in_ok-opened_case.ensures.worktrees in
    IfOk-weaker c.refused_race_report.result (λ x. IsRefusedReport c.in-Err.refusal x.0 x.1.items) (λ x. IsRaceOf scene x.0 x.1.items)
    (λ x report. refused_told scene opened_case.repo c.as_slice.result.now repo_is trees_are c.in-Err.refusal c.race_with.result c.in-Err.is c.race_with.ensures.closed x.0 x.1.items report)
    c.refused_race_report.ensures
