use Rattle.std.proofs.Common.{◌≡◌, refl, ap, ◌∙◌, inl, inr}
use Rattle.std.proofs.lemmas.Result.{err_from_is_err_and}
use Rattle.fetch_remote.specs.declared.repository.open_error.OpenError.TheVariants as opening
use Rattle.fetch_clone.specs.Saving.{tagged}
use Rattle.fetch_init.specs.declared.clone.fetch.Error.TheVariants as errors
use Rattle.fetch_clone.proofs.fetching.saving.save_as.Goals as goal

pub returns-in_err-remote-clause-refused : goal.returns-in_err-remote-clause-refused
returns-in_err-remote-clause-refused g c =
    let p = err_from_is_err_and c.from_residual.result c.from_residual.ensures.1 in
    rw (p.1, p.2) (record { by = inl (rw c.as_bytes.ensures at c.in_err-remote.ensures.refused, refl) })

pub returns-in_err-remote-clause-load : goal.returns-in_err-remote-clause-load
returns-in_err-remote-clause-load g c is =
    let p = err_from_is_err_and c.from_residual.result c.from_residual.ensures.1 in
    let e : c.in_err-remote.field-0.0 ≡ errors.LoadConfig opening.Io = cc in
    absurd (rw e at c.in_err-remote.ensures.refused)

pub returns-in_err-remote-clause-io : goal.returns-in_err-remote-clause-io
returns-in_err-remote-clause-io g c is =
    let p = err_from_is_err_and c.from_residual.result c.from_residual.ensures.1 in
    let e : c.in_err-remote.field-0.0 ≡ errors.SaveConfigIo = cc in
    absurd (rw e at c.in_err-remote.ensures.refused)

pub returns-in_err-section-clause-refused : goal.returns-in_err-section-clause-refused
returns-in_err-section-clause-refused g c =
    let p = err_from_is_err_and c.from_residual-in_err-section.result c.from_residual-in_err-section.ensures.1 in
    rw (p.1, p.2) (record { by = inr (record { chosen = c.in_ok-remote.remote; is_chosen = rw c.as_bytes.ensures at c.in_ok-remote.ensures.chosen; why = rw c.as_bytes-2.ensures at c.in_err-section.ensures.refused }) })

pub returns-clause-saved : goal.returns-clause-saved
returns-clause-saved g c =
    record {
      chosen = c.in_ok-remote.remote;
      is_chosen = rw c.as_bytes.ensures at c.in_ok-remote.ensures.chosen;
      section = rw c.as_bytes-2.ensures at c.in_ok-section.ensures.section;
      written = c.in_ok-section.ensures.written;
      called = refl;
      remote = c.tagged.ensures ∙ ap (tagged c.args.draft.now) (rw c.as_bytes-2.ensures at c.in_ok-section.ensures.named);
    }
