use Rattle.std.proofs.Common.{◌++◌, ap, ◌∙◌}
use Rattle.fetch_create.specs.Plans.{contents_of}
use Rattle.fetch_create.proofs.Appended.{behind}
use Rattle.fetch_create.proofs.create.plan.push_contents.Goals as goal

pub returns : goal.returns
returns c =
    let n0 = c.args.steps.now.items in
    let a1 = behind _ _ n0 _ _ c.in_ok-push_file.ensures c.in_ok-push_directory.ensures in
    let a2 = behind _ _ n0 _ _ a1 c.in_ok-push_directory-2.ensures in
    let a3 = behind _ _ n0 _ _ a2 c.in_ok-push_directory-3.ensures in
    let a4 = behind _ _ n0 _ _ a3 c.in_ok-push_directory-4.ensures in
    let a5 = behind _ _ n0 _ _ a4 c.in_ok-push_directory-5.ensures in
    let a6 = behind _ _ n0 _ _ a5 c.in_ok-push_file-2.ensures in
    let a7 = behind _ _ n0 _ _ a6 c.in_ok-push_file-3.ensures in
    let a8 = behind _ _ n0 _ _ a7 c.in_ok-push_file-4.ensures in
    a8 ∙ ap (λ bytes. n0 ++ contents_of c.args.git_dir.now bytes) c.as_bytes.ensures
