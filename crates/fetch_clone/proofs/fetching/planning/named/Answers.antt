use Rattle.std.proofs.Common.{◌≡◌, refl, inl, inr}
use Rattle.std.proofs.lemmas.Result.{err_from_is_err_and}
use Rattle.fetch_conversation.specs.declared.ref_map.Error.TheVariants as ref_map
use Rattle.fetch_init.specs.declared.clone.fetch.Error.TheVariants as errors
use Rattle.fetch_clone.proofs.Blamed.{maker-done, maker-refused, maker-unlent, stop-done, stop-refused, stop-unlent}
use Rattle.fetch_clone.proofs.fetching.planning.named.Goals as goal

pub returns-in_err-override_with-clause-refused : goal.returns-in_err-override_with-clause-refused
returns-in_err-override_with-clause-refused g c =
    let p = err_from_is_err_and c.from_residual.result c.from_residual.ensures.1 in
    rw (p.1, p.2) (record { by = inl (record { why = c.in_err-override_with.ensures.refused; state = c.override_with.ensures.state; setup = c.in_err-override_with.ensures.err; same = refl }) })

pub returns-in_err-name-clause-refused : goal.returns-in_err-name-clause-refused
returns-in_err-name-clause-refused g c =
    let p = err_from_is_err_and c.from_residual-in_err-name.result c.from_residual-in_err-name.ensures.1 in
    rw (p.1, p.2) (record { by = inr (inl (record { state = c.override_with.ensures.state; overridden = c.in_ok-override_with.ensures.ok; why = rw c.config.ensures at c.in_err-name.ensures.refused; same = refl })) })

pub returns-in_err-target-clause-refused : goal.returns-in_err-target-clause-refused
returns-in_err-target-clause-refused g c =
    let p = err_from_is_err_and c.from_residual-in_err-target.result c.from_residual-in_err-target.ensures.1 in
    rw (p.1, p.2) (record { by = inr (inr (record { state = c.override_with.ensures.state; overridden = c.in_ok-override_with.ensures.ok; accepted = rw c.config.ensures at c.in_ok-name.ensures.accepted; why = c.in_err-target.ensures.refused })) })

pub returns-clause-named : goal.returns-clause-named
returns-clause-named g c = (
  record {
    state = c.override_with.ensures.state;
    overridden = c.in_ok-override_with.ensures.ok;
    called = rw c.config.ensures at c.in_ok-name.ensures.name;
    accepted = rw c.in_ok-name.ensures.name c.in_ok-name.ensures.accepted;
    targeted = c.in_ok-target.ensures.target.0;
  },
  c.in_ok-target.ensures.target.1,
)

-- ---- who is blamed

pub returns-in_err-override_with-clause-maker : goal.returns-in_err-override_with-clause-maker
returns-in_err-override_with-clause-maker g c =
    let p = err_from_is_err_and c.from_residual.result c.from_residual.ensures.1 in
    rw (p.1, p.2) (maker-unlent _ _ _ _ _ (λ is. (let e : c.in_err-override_with.field-0.0 ≡ errors.RefMap ref_map.Transport = is in rw e at c.in_err-override_with.ensures.refused)))

pub returns-in_err-override_with-clause-interrupt : goal.returns-in_err-override_with-clause-interrupt
returns-in_err-override_with-clause-interrupt g c =
    let p = err_from_is_err_and c.from_residual.result c.from_residual.ensures.1 in
    rw (p.1, p.2) (stop-unlent _ _ _ _ _ _ (λ is. (let e : c.in_err-override_with.field-0.0 ≡ errors.RefMap ref_map.Interrupted = is in rw e at c.in_err-override_with.ensures.refused)))

pub returns-in_err-name-clause-maker : goal.returns-in_err-name-clause-maker
returns-in_err-name-clause-maker g c =
    let p = err_from_is_err_and c.from_residual-in_err-name.result c.from_residual-in_err-name.ensures.1 in
    rw (p.1, p.2) (maker-unlent _ _ _ _ _ (λ is. (let e : c.in_err-name.field-0.0 ≡ errors.RefMap ref_map.Transport = is in rw e at c.in_err-name.ensures.refused)))

pub returns-in_err-name-clause-interrupt : goal.returns-in_err-name-clause-interrupt
returns-in_err-name-clause-interrupt g c =
    let p = err_from_is_err_and c.from_residual-in_err-name.result c.from_residual-in_err-name.ensures.1 in
    rw (p.1, p.2) (stop-unlent _ _ _ _ _ _ (λ is. (let e : c.in_err-name.field-0.0 ≡ errors.RefMap ref_map.Interrupted = is in rw e at c.in_err-name.ensures.refused)))

pub returns-in_err-target-clause-maker : goal.returns-in_err-target-clause-maker
returns-in_err-target-clause-maker g c =
    let p = err_from_is_err_and c.from_residual-in_err-target.result c.from_residual-in_err-target.ensures.1 in
    rw (p.1, p.2) (maker-refused _ _ _ _ _ _ _ _ c.in_err-target.ensures.maker)

pub returns-in_err-target-clause-interrupt : goal.returns-in_err-target-clause-interrupt
returns-in_err-target-clause-interrupt g c =
    let p = err_from_is_err_and c.from_residual-in_err-target.result c.from_residual-in_err-target.ensures.1 in
    rw (p.1, p.2) (stop-refused _ _ _ _ _ _ _ _ c.in_err-target.ensures.interrupt)

pub returns-clause-maker : goal.returns-clause-maker
returns-clause-maker g c = maker-done _ _ _ _ _ _ _ _ c.in_ok-target.ensures.maker

pub returns-clause-interrupt : goal.returns-clause-interrupt
returns-clause-interrupt g c = stop-done _ _ _ _ _ _ _ _ c.in_ok-target.ensures.interrupt
