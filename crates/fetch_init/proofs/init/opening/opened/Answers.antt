use Rattle.std.proofs.Common.{Some, sym, ap, ◌∙◌}
use Rattle.std.proofs.lemmas.Result.{err_from_is_err_and}
use Rattle.fetch_remote.specs.Repositories.{setup_of}
use Rattle.fetch_remote.specs.RepositoryValues.{State, Setup}
use Rattle.fetch_init.specs.Initial.{head_branch, with_head}
use Rattle.fetch_init.proofs.Opened.{not-headed, not-overridden}
use Rattle.fetch_init.proofs.init.opening.opened.Goals as goal

pub returns-in_err-repo-clause-refused : goal.returns-in_err-repo-clause-refused
returns-in_err-repo-clause-refused c =
    let p = err_from_is_err_and c.from_residual.result c.from_residual.ensures.1 in
    rw (p.1, p.2) (not-overridden c.args.new c.args.local c.in_err-repo.field-0.0 c.in_err-repo.ensures.refused)

pub returns-in_err-branch-clause-refused : goal.returns-in_err-branch-clause-refused
returns-in_err-branch-clause-refused c =
    let p = err_from_is_err_and c.from_residual-in_err-branch.result c.from_residual-in_err-branch.ensures.1 in
    rw (p.1, p.2) (not-headed c.args.new c.args.local (setup_of c.in_ok-repo.repo) c.in_err-branch.field-0.0 c.in_ok-repo.ensures.setup c.in_err-branch.ensures.refused)

pub returns-in_err-lead_head-clause-refused : goal.returns-in_err-lead_head-clause-refused
returns-in_err-lead_head-clause-refused c =
    let p = err_from_is_err_and c.from_residual-in_err-lead_head.result c.from_residual-in_err-lead_head.ensures.1 in
    rw (p.1, p.2) tt

pub returns-clause-repo : goal.returns-clause-repo
returns-clause-repo c =
    record {
      setup = c.in_ok-repo.ensures.setup ∙ ap (λ (s : Setup). Some s) (sym c.lead_head.ensures.setup);
      branch = c.in_ok-branch.branch;
      named = ap head_branch c.lead_head.ensures.setup ∙ c.in_ok-branch.ensures.branch;
      state = c.in_ok-lead_head.ensures.state ∙ ap (λ (s : State). with_head s c.in_ok-branch.branch) c.in_ok-repo.ensures.state;
    }
