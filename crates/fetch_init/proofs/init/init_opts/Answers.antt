use Rattle.std.proofs.lemmas.Result.{err_from_is_err_and}
use Rattle.fetch_base.specs.Faults.{Rose-earlier}
use Rattle.fetch_init.specs.Initial.{new_of}
use Rattle.fetch_create.specs.Plans.{steps_of}
use Rattle.fetch_init.proofs.Opened.{created-only, creating-fault, uncreated}
use Rattle.fetch_init.proofs.init.init_opts.Goals as goal

pub returns-in_err-path-clause-refused : goal.returns-in_err-path-clause-refused
returns-in_err-path-clause-refused g c =
    let p = err_from_is_err_and c.from_residual.result c.from_residual.ensures.1 in
    rw (p.1, p.2) (uncreated (g.F.Files.may_fail c.args.files.now) (g.F.Files.told c.args.files.now) (g.F.Files.told c.into.new.files) (steps_of c.args.directory.now c.args.kind c.args.options) (new_of c.args.directory.now c.args.kind c.args.options c.args.committer c.args.open_options) c.in_err-path.field-0.0 c.in_err-path.ensures.refused)

pub returns-in_err-path-clause-cause : goal.returns-in_err-path-clause-cause
returns-in_err-path-clause-cause g c =
    let p = err_from_is_err_and c.from_residual.result c.from_residual.ensures.1 in
    rw (p.1, p.2) (creating-fault (g.F.Files.faults c.args.files.now) (g.F.Files.faults c.into.new.files) c.in_err-path.field-0.0 c.in_err-path.ensures.cause)

pub returns-in_err-repo-clause-refused : goal.returns-in_err-repo-clause-refused
returns-in_err-repo-clause-refused g c =
    let p = err_from_is_err_and c.from_residual-in_err-repo.result c.from_residual-in_err-repo.ensures.1 in
    let why = rw (c.in_ok-path.ensures.path, c.unwrap_or.ensures, c.into.ensures.may_fail) at c.in_err-repo.ensures.refused in
    rw (p.1, p.2) (created-only (g.F.Files.may_fail c.args.files.now) (g.F.Files.told c.args.files.now) (g.F.Files.told c.into.new.files) (g.F.Files.told c.open_new.new.files) (steps_of c.args.directory.now c.args.kind c.args.options) (new_of c.args.directory.now c.args.kind c.args.options c.args.committer c.args.open_options) c.in_err-repo.field-0.0 c.in_ok-path.ensures.done why)

pub returns-in_err-repo-clause-cause : goal.returns-in_err-repo-clause-cause
returns-in_err-repo-clause-cause g c =
    let p = err_from_is_err_and c.from_residual-in_err-repo.result c.from_residual-in_err-repo.ensures.1 in
    rw (p.1, p.2) (λ t. Rose-earlier (g.F.Files.faults c.args.files.now) (g.F.Files.faults c.into.new.files) (g.F.Files.faults c.open_new.new.files) c.in_ok-path.ensures.counts (c.in_err-repo.ensures.cause t))

pub returns-clause-created : goal.returns-clause-created
returns-clause-created g c = rw c.in_ok-repo.ensures.tree c.in_ok-path.ensures.done

pub returns-clause-repo : goal.returns-clause-repo
returns-clause-repo g c = rw (c.into_sync.ensures, c.in_ok-repo.ensures.tree) (rw (c.in_ok-path.ensures.path, c.unwrap_or.ensures) at c.in_ok-repo.ensures.repo)
