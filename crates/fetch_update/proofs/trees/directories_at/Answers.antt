use Rattle.std.proofs.Common.{sym}
use Rattle.fetch_update.proofs.Directories.{found_some}
use Rattle.fetch_update.proofs.trees.directories_at.Goals as goal

pub returns-in_ok-copies-in-Some : goal.returns-in_ok-copies-in-Some
returns-in_ok-copies-in-Some c =
    found_some c.args.worktrees.now c.args.index.now c.args.name.now c.in-Some.directories.now c.in_ok-copies-in-Some.field-0 c.requires (sym c.in-Some.ensures.value) c.in_ok-copies-in-Some.ensures.keys c.in_ok-copies-in-Some.ensures.ordered
