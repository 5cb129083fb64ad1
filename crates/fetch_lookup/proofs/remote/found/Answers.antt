use Rattle.std.proofs.lemmas.Result.{err_from_is_err_and}
use Rattle.fetch_lookup.specs.Remotes.{is_memory}
use Rattle.fetch_lookup.proofs.Founds.{no-tags, no-urls, no-push_urls, no-fetch_specs, no-push_specs, all-parts}
use Rattle.fetch_lookup.proofs.Gathered.{where-fails}
use Rattle.fetch_lookup.proofs.remote.found.Goals as goal

pub returns-in_err-fetch_tags : goal.returns-in_err-fetch_tags
returns-in_err-fetch_tags c =
    let p = err_from_is_err_and c.from_residual.result c.from_residual.ensures.1 in
    rw (p.1, p.2) (where-fails (is_memory c.in_err-fetch_tags.field-0.0) (λ e. no-tags c.args.file.now.sections c.args.name.now e) c.in_err-fetch_tags.ensures)

pub returns-in_err-urls : goal.returns-in_err-urls
returns-in_err-urls c =
    let p = err_from_is_err_and c.from_residual-in_err-urls.result c.from_residual-in_err-urls.ensures.1 in
    rw (p.1, p.2) (where-fails (is_memory c.in_err-urls.field-0.0) (λ e. no-urls c.args.file.now.sections c.args.name.now c.in_ok-fetch_tags.ensures e) c.in_err-urls.ensures)

pub returns-in_err-push_urls : goal.returns-in_err-push_urls
returns-in_err-push_urls c =
    let p = err_from_is_err_and c.from_residual-in_err-push_urls.result c.from_residual-in_err-push_urls.ensures.1 in
    rw (p.1, p.2) (where-fails (is_memory c.in_err-push_urls.field-0.0) (λ e. no-push_urls c.args.file.now.sections c.args.name.now c.in_ok-fetch_tags.ensures c.in_ok-urls.ensures e) c.in_err-push_urls.ensures)

pub returns-in_err-fetch_specs : goal.returns-in_err-fetch_specs
returns-in_err-fetch_specs c =
    let p = err_from_is_err_and c.from_residual-in_err-fetch_specs.result c.from_residual-in_err-fetch_specs.ensures.1 in
    rw (p.1, p.2) (where-fails (is_memory c.in_err-fetch_specs.field-0.0) (λ e. no-fetch_specs c.args.file.now.sections c.args.name.now c.in_ok-fetch_tags.ensures c.in_ok-urls.ensures c.in_ok-push_urls.ensures e) c.in_err-fetch_specs.ensures)

pub returns-in_err-push_specs : goal.returns-in_err-push_specs
returns-in_err-push_specs c =
    let p = err_from_is_err_and c.from_residual-in_err-push_specs.result c.from_residual-in_err-push_specs.ensures.1 in
    rw (p.1, p.2) (where-fails (is_memory c.in_err-push_specs.field-0.0) (λ e. no-push_specs c.args.file.now.sections c.args.name.now c.in_ok-fetch_tags.ensures c.in_ok-urls.ensures c.in_ok-push_urls.ensures c.in_ok-fetch_specs.ensures e) c.in_err-push_specs.ensures)

pub returns : goal.returns
returns c =
    all-parts c.args.file.now.sections c.args.name.now c.in_ok-fetch_tags.ensures c.in_ok-urls.ensures c.in_ok-push_urls.ensures c.in_ok-fetch_specs.ensures c.in_ok-push_specs.ensures c.in_ok-name.ensures
