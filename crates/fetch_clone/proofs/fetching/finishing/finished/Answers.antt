use Rattle.std.proofs.Common.{refl, inl, inr}
use Rattle.std.proofs.lemmas.Result.{err_from_is_err_and, IfErr-weaker, on_ok_weaker}
use Rattle.fetch_clone.proofs.fetching.finishing.finished.Goals as goal

pub returns-in_err-message-clause-refused : goal.returns-in_err-message-clause-refused
returns-in_err-message-clause-refused g c =
    let p = err_from_is_err_and c.from_residual.result c.from_residual.ensures.1 in
    rw (p.1, p.2) (record { by = inl (record { memory = refl; state = refl; setup = refl; tree = refl }) })

pub returns-in_err-put_in_force-clause-refused : goal.returns-in_err-put_in_force-clause-refused
returns-in_err-put_in_force-clause-refused g c =
    let p = err_from_is_err_and c.from_residual-in_err-put_in_force.result c.from_residual-in_err-put_in_force.ensures.1 in
    rw (p.1, p.2) (record { by = inl (record { memory = refl; state = c.put_in_force.ensures.state; setup = c.in_err-put_in_force.ensures.err; tree = refl }) })

pub returns-clause-ok : goal.returns-clause-ok
returns-clause-ok g c =
    on_ok_weaker c.update_head.result
    (λ h. record { between = c.put_in_force.new.repo; state = c.put_in_force.ensures.state; in_force = c.in_ok-put_in_force.ensures.ok; head = h })
    (rw (c.as_bytes.ensures, c.in_ok-message.ensures, c.ref_name-ref_name.ensures, c.revision-revision.ensures) at c.update_head.ensures.ok)

pub returns-clause-refused : goal.returns-clause-refused
returns-clause-refused g c =
    IfErr-weaker c.update_head.result _ _
    (λ e h. record { by = inr (record { between = c.put_in_force.new.repo; state = c.put_in_force.ensures.state; in_force = c.in_ok-put_in_force.ensures.ok; why = h }) })
    (rw (c.as_bytes.ensures, c.in_ok-message.ensures, c.ref_name-ref_name.ensures, c.revision-revision.ensures) at c.update_head.ensures.refused)
