use Rattle.std.proofs.Common.{refl, IsTrue}
use Rattle.std.proofs.lemmas.Result.{err_from_is_err_and, IfOk-weaker}
use Rattle.fetch_base.specs.Faults.{Rose}
use Rattle.fetch_init.specs.Initial.{IsInitial, IsNew, IsUnopened, IsUnready, is_init_fault}
use Rattle.fetch_init.proofs.Opened.{each-err, no-fault, unopened, unread, unread-fault}
use Rattle.fetch_init.proofs.init.opening.open_new.Goals as goal

pub returns-in_err-local-clause-refused : goal.returns-in_err-local-clause-refused
returns-in_err-local-clause-refused g c =
    let p = err_from_is_err_and c.from_residual.result c.from_residual.ensures.1 in
    let e = c.in_err-local.ensures in
    rw (p.1, p.2) (unread (g.F.Files.may_fail c.args.files.now) (g.F.Files.told c.args.files.now) (g.F.Files.told c.read_local.new.files) c.args.new c.in_err-local.field-0.0 e.refused e.tree (λ is. e.in_the_way (rw is refl)))

pub returns-in_err-local-clause-cause : goal.returns-in_err-local-clause-cause
returns-in_err-local-clause-cause g c =
    let p = err_from_is_err_and c.from_residual.result c.from_residual.ensures.1 in
    rw (p.1, p.2) (unread-fault (g.F.Files.faults c.args.files.now) (g.F.Files.faults c.read_local.new.files) c.in_err-local.field-0.0 (λ is. c.in_err-local.ensures.io (rw is refl)))

pub returns-clause-repo : goal.returns-clause-repo
returns-clause-repo g c =
    IfOk-weaker c.opened.result (IsNew c.args.new c.in_ok-local.local) (IsInitial (g.F.Files.told c.args.files.now) c.args.new)
    (λ repo new. record { local = c.in_ok-local.local; read = c.in_ok-local.ensures.file; opened = new }) c.opened.ensures.repo

pub returns-clause-refused : goal.returns-clause-refused
returns-clause-refused g c =
    let before = g.F.Files.told c.args.files.now in
    let now = g.F.Files.told c.read_local.new.files in
    each-err (IsUnopened c.args.new c.in_ok-local.local) (IsUnready (g.F.Files.may_fail c.args.files.now) before c.args.new now)
    (λ e why. unopened (g.F.Files.may_fail c.args.files.now) before now c.args.new c.in_ok-local.local e c.in_ok-local.ensures.tree c.in_ok-local.ensures.file why) c.opened.result c.opened.ensures.refused

pub returns-clause-cause : goal.returns-clause-cause
returns-clause-cause g c =
    let was = g.F.Files.faults c.args.files.now in
    let is = g.F.Files.faults c.read_local.new.files in
    each-err (IsUnopened c.args.new c.in_ok-local.local) (λ e. IsTrue (is_init_fault e) → Rose was is) (no-fault was is c.args.new c.in_ok-local.local) c.opened.result c.opened.ensures.refused
