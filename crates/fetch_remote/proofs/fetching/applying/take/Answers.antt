use Rattle.std.proofs.Common.{Some}
use Rattle.std.proofs.lemmas.Result.{err_from_is_err_and}
use Rattle.fetch_remote.specs.Repositories.{state_of}
use Rattle.fetch_remote.proofs.Blamed.{files_still}
use Rattle.fetch_remote.proofs.Applied.{untaken_early, untaken_making, untaken_behind, refused_keep}
use Rattle.fetch_remote.proofs.fetching.applying.take.Goals as goal

pub returns-in_err-may_take-clause-refused : goal.returns-in_err-may_take-clause-refused
returns-in_err-may_take-clause-refused g c =
    let p = err_from_is_err_and c.from_residual.result c.from_residual.ensures.1 in
    rw (p.1, p.2) (untaken_early (state_of c.args.repo.now) c.args.wants.now (Some c.args.received) _ _ c.in_err-may_take.field-0.0 c.in_err-may_take.ensures.answer)

pub returns-in_err-pack-clause-refused : goal.returns-in_err-pack-clause-refused
returns-in_err-pack-clause-refused g c =
    let p = err_from_is_err_and c.from_residual-in_err-pack.result c.from_residual-in_err-pack.ensures.1 in
    let h = rw c.settings.ensures.settings at c.in_err-pack.ensures.refused in
    rw (p.1, p.2) (untaken_making (state_of c.args.repo.now) c.args.wants.now c.args.received _ _ _ _ c.in_err-pack.field-0.0 c.in_ok-may_take.ensures.answer h)

pub returns-in_err-negotiate-clause-refused : goal.returns-in_err-negotiate-clause-refused
returns-in_err-negotiate-clause-refused g c =
    let p = err_from_is_err_and c.from_residual-in_err-negotiate.result c.from_residual-in_err-negotiate.ensures.1 in
    let h = rw c.settings.ensures.settings at c.in_ok-pack.ensures.made in
    rw (p.1, p.2, c.in_err-negotiate.ensures.refused) (untaken_behind (state_of c.args.repo.now) c.args.wants.now c.args.received _ _ _ _ c.in_ok-may_take.ensures.answer h)

pub returns-clause-made : goal.returns-clause-made
returns-clause-made g c = rw c.settings.ensures.settings at c.in_ok-pack.ensures.made

pub returns-in_err-may_take-clause-files : goal.returns-in_err-may_take-clause-files
returns-in_err-may_take-clause-files g c =
    let p = err_from_is_err_and c.from_residual.result c.from_residual.ensures.1 in
    rw (p.1, p.2) (files_still _ _ (refused_keep (state_of c.args.repo.now) c.args.wants.now (Some c.args.received) c.in_err-may_take.field-0.0 c.in_err-may_take.ensures.answer))

pub returns-in_err-negotiate-clause-files : goal.returns-in_err-negotiate-clause-files
returns-in_err-negotiate-clause-files g c =
    let p = err_from_is_err_and c.from_residual-in_err-negotiate.result c.from_residual-in_err-negotiate.ensures.1 in
    rw (p.1, p.2, c.in_err-negotiate.ensures.refused) c.in_ok-pack.ensures.files
