use Rattle.std.proofs.Common.{ap, ◌∙◌}
use Rattle.std.proofs.lemmas.Result.{err_from_is_err_and}
use Rattle.fetch_remote.specs.Paths.{config_path}
use Rattle.fetch_remote.specs.Repositories.{state_of}
use Rattle.fetch_remote.proofs.Undone.{left_unclean}
use Rattle.fetch_remote.proofs.repository.Repository.delete.Goals as goal

pub returns-in_err-replace_file-clause-left : goal.returns-in_err-replace_file-clause-left
returns-in_err-replace_file-clause-left g c =
    let p = err_from_is_err_and c.from_residual-in_err-replace_file.result c.from_residual-in_err-replace_file.ensures.1 in
    let plan = rw (c.as_slice.ensures, c.in-Some.is) at c.in_ok-change.ensures.plan in
    let gone = rw c.as_slice-2.ensures at c.in_ok-delete_references.ensures.ok in
    rw (p.1, p.2) (left_unclean _ _ (g.F.Files.told c.replace_file.new.files) _ c.args.names (state_of c.args.self.now) (state_of c.delete_references.new.self) _ c.in_ok-file.file _ _ c.in_err-replace_file.field-0.0
    (c.as_bytes.ensures ∙ c.in_ok-path.ensures ∙ ap config_path c.git_dir.ensures) c.in_ok-file.ensures.ok plan.sections gone c.in_ok-file.ensures.tree plan.lock plan.text c.in_err-replace_file.ensures.left)
