use Rattle.std.proofs.Common.{ap, List, ℕ}
use Rattle.std.specs.List.{concat}
use Rattle.fetch_cli.proofs.Summed.{sums_if}
use Rattle.fetch_cli.proofs.reporting.summary.summary.Goals as goal

pub returns : goal.returns
returns g c =
    let fetch_case = c.in_ok-fetch_case.ensures in
    sums_if (λ x. x.0) (λ x. x.1.items) c.sum_up.result c.args.count c.args.scene _ _ _ _ _ _ _ _ fetch_case.given fetch_case.worktrees fetch_case.found (ap (λ (pieces : List (List ℕ)). concat pieces) fetch_case.pieces) c.fetch-fetched.ensures.fetched c.sum_up.ensures
