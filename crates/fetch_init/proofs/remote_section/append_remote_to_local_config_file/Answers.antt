use Rattle.std.proofs.Common.{refl, inl, inr}
use Rattle.std.proofs.lemmas.Result.{err_from_is_err_and}
use Rattle.fetch_init.proofs.remote_section.append_remote_to_local_config_file.Goals as goal

pub returns-in_err-named-clause-refused : goal.returns-in_err-named-clause-refused
returns-in_err-named-clause-refused g c =
    let p = err_from_is_err_and c.from_residual.result c.from_residual.ensures.1 in
    rw (p.1, p.2) (inl (refl, tt))

pub returns-in_err-section-clause-refused : goal.returns-in_err-section-clause-refused
returns-in_err-section-clause-refused g c =
    let p = err_from_is_err_and c.from_residual-in_err-section.result c.from_residual-in_err-section.ensures.1 in
    rw (p.1, p.2) (inl (refl, rw c.in_ok-named.ensures at c.in_err-section.ensures.refused))

pub returns-in-Err-clause-refused : goal.returns-in-Err-clause-refused
returns-in-Err-clause-refused g c =
    let is = rw c.in_ok-named.ensures at c.in_ok-section.ensures.section in
    inr (rw c.in_ok-named.ensures at c.in_ok-section.ensures.saveable, rw is at c.in-Err.ensures.refused)
