use Rattle.std.proofs.Common.{◌≡◌, refl, sym, ◌∙◌}
use Rattle.std.proofs.lemmas.Bool.{false≢true}
use Rattle.std.proofs.lemmas.Result.{err_from_is_err_and}
use Rattle.fetch_base.specs.Faults.{Rose-earlier}
use Rattle.fetch_clone.proofs.Prepared.{has-address, preparing-fault, unprepared}
use Rattle.fetch_init.specs.Refusals.{init_refusal}
use Rattle.fetch_init.specs.declared.clone.Error.TheVariants as errors
use Rattle.fetch_clone.proofs.clone_state.prepare.Goals as goal

pub returns-in_err-repo-clause-refused : goal.returns-in_err-repo-clause-refused
returns-in_err-repo-clause-refused g c =
    let p = err_from_is_err_and c.from_residual-in_err-repo.result c.from_residual-in_err-repo.ensures.1 in
    let why = rw (c.as_bytes.ensures, c.in_ok-place.ensures, c.strict-options.ensures, c.in_ok-free.ensures.may_fail, c.in_ok-free.ensures.tree) at c.in_err-repo.ensures.refused in
    rw (p.1, p.2)
    (unprepared (g.F.Files.faults c.args.files.now) (g.F.Files.faults c.is_free.new.files) (g.F.Files.faults c.init_opts.new.files) (g.F.Files.may_fail c.args.files.now) (g.F.Files.told c.args.files.now) (g.F.Files.told c.init_opts.new.files) c.args.url.now c.args.place.now c.in_ok-free.free c.args.making c.in_err-repo.field-0.0
    (sym c.is_no_address.ensures ∙ c.if-is_no_address.false) (rw c.in_ok-place.ensures at c.in_ok-free.ensures.noted) c.in_err-repo.ensures.counts why)

pub returns-in_err-repo-clause-untouched : goal.returns-in_err-repo-clause-untouched
returns-in_err-repo-clause-untouched g c is =
    let p = err_from_is_err_and c.from_residual-in_err-repo.result c.from_residual-in_err-repo.ensures.1 in
    let e : init_refusal c.in_err-repo.field-0.0 ≡ errors.Url = cc in
    absurd (has-address c.in_err-repo.field-0.0 e)

pub returns-in_err-repo-clause-cause : goal.returns-in_err-repo-clause-cause
returns-in_err-repo-clause-cause g c =
    let p = err_from_is_err_and c.from_residual-in_err-repo.result c.from_residual-in_err-repo.ensures.1 in
    rw (p.1, p.2)
    (preparing-fault (g.F.Files.faults c.args.files.now) (g.F.Files.faults c.init_opts.new.files) c.in_err-repo.field-0.0
    (λ t. Rose-earlier (g.F.Files.faults c.args.files.now) (g.F.Files.faults c.is_free.new.files) (g.F.Files.faults c.init_opts.new.files) c.in_ok-free.ensures.counts (c.in_err-repo.ensures.cause t)))

pub returns-in_err-opened-clause-refused : goal.returns-in_err-opened-clause-refused
returns-in_err-opened-clause-refused g c =
    let p = err_from_is_err_and c.from_residual-in_err-opened.result c.from_residual-in_err-opened.ensures.1 in
    let created = rw c.in_ok-free.ensures.tree at c.in_ok-repo.ensures.created in
    rw (p.1, p.2) created.told

pub returns-in_err-opened-clause-cause : goal.returns-in_err-opened-clause-cause
returns-in_err-opened-clause-cause g c =
    let p = err_from_is_err_and c.from_residual-in_err-opened.result c.from_residual-in_err-opened.ensures.1 in
    rw (p.1, p.2) (λ t. absurd (false≢true t))

pub returns-clause-ok : goal.returns-clause-ok
returns-clause-ok g c =
    record {
      address = sym c.is_no_address.ensures ∙ c.if-is_no_address.false;
      failed = g.F.Files.faults c.is_free.new.files;
      noted = rw c.in_ok-place.ensures at c.in_ok-free.ensures.noted;
      later = c.in_ok-repo.ensures.counts;
      created = rw (c.as_bytes.ensures, c.in_ok-place.ensures, c.strict-options.ensures, c.in_ok-free.ensures.tree) at c.in_ok-repo.ensures.created;
      found = record {
        opened = refl;
        repo = rw c.to_thread_local-repo.ensures (rw (c.as_bytes.ensures, c.in_ok-place.ensures, c.strict-options.ensures) at c.in_ok-repo.ensures.repo);
        overrides = c.in_ok-opened.ensures;
      };
      begun = record { url_kept = c.in_ok-url.ensures; place_kept = c.in_ok-place.ensures; choices = c.new-3.ensures; unset = refl };
    }
