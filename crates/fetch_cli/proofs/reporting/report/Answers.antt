use Rattle.std.proofs.Common.{ap, List, ℕ}
use Rattle.std.specs.List.{concat}
use Rattle.fetch_cli.proofs.Reported.{reports_if}
use Rattle.fetch_cli.proofs.reporting.report.Goals as goal

pub returns : goal.returns
returns g c =
    let fetch_case = c.in_ok-fetch_case.ensures in
    let kept = rw (c.git_dir.ensures, c.fetch-fetched.ensures.setup) at c.in_ok-keep.ensures in
    reports_if c.args.scene _ _ c.append_report.result _ _ _ _ _ _ _ _ _ fetch_case.given fetch_case.worktrees fetch_case.found (ap (λ (pieces : List (List ℕ)). concat pieces) fetch_case.pieces) c.fetch-fetched.ensures.fetched kept c.append_report.ensures
