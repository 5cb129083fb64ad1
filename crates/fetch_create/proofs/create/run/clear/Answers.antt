use Rattle.std.proofs.Common.{◌≡◌, ◌≤◌, List, ℕ, length, Some, IfSome, option_map, subst}
use Rattle.std.proofs.lemmas.Result.{err_from_is_err_and}
use Rattle.fetch_create.specs.Creation.{listed_in}
use Rattle.fetch_create.proofs.Steps.{has-entry, unlisted, unopened-err}
use Rattle.fetch_create.proofs.create.run.clear.Goals as goal

pub returns-in_err-listed-clause-refused : goal.returns-in_err-listed-clause-refused
returns-in_err-listed-clause-refused g c =
    let p = err_from_is_err_and c.from_residual.result c.from_residual.ensures.1 in
    rw (p.1, p.2) (unlisted (g.F.Files.may_fail c.args.files.now) (g.F.Files.told c.args.files.now) (g.F.Files.told c.listed.new.files) c.args.path.now c.in_err-listed.field-0.0 c.in_err-listed.ensures.refused)

pub returns-in-None-clause-refused : goal.returns-in-None-clause-refused
returns-in-None-clause-refused g c =
    let told = g.F.Files.told c.args.files.now in
    let absent = subst (λ (o : _). IfSome told (λ t. listed_in t c.args.path.now ≡ Some (option_map (λ names. names.items) o))) c.in-None.is c.in_ok-listed.ensures.found in
    unopened-err (g.F.Files.may_fail c.args.files.now) told (g.F.Files.told c.open_absent.new.files) c.args.path.now c.open_absent.result absent (rw (c.in_ok-listed.ensures.tree, c.listed.ensures.may_fail) at c.open_absent.ensures.refused)

pub returns-clause-refused : goal.returns-clause-refused
returns-clause-refused g c =
    let told = g.F.Files.told c.args.files.now in
    let e = subst (λ (o : _). IfSome told (λ t. listed_in t c.args.path.now ≡ Some (option_map (λ names. names.items) o))) c.in-Some.is c.in_ok-listed.ensures.found in
    (c.in_ok-try_clone-in-len1-up.ensures, c.in_ok-listed.ensures.tree, has-entry told c.args.path.now c.in-Some.names.items e (subst (λ (l : List (List ℕ)). 1 ≤ length l) c.as_slice.ensures.value c.in-len1-up.len_at_least))
