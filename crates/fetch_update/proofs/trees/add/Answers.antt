use Rattle.std.specs.BTreeMap.{get}
use Rattle.fetch_refs.specs.Names.{name_cmp}
use Rattle.fetch_update.proofs.Directories.{added, removed_put, directory_put}
use Rattle.fetch_update.proofs.trees.add.Goals as goal

pub returns : goal.returns
returns c = λ done ok.
    added done c.args.tree.now c.args.index.now c.insert.new.self c.in_ok-directories.directories
    (removed_put c.args.tree.now.branch c.in_ok-try_clone-2.field-0 c.args.index.now c.remove-others.new.self c.insert.new.self c.in_ok-directories.directories c.remove-others.ensures.updates.0 c.in_ok-insert.ensures.updates.0 c.in_ok-try_clone-2.ensures)
    (directory_put c.in_ok-try_clone.field-0 c.args.tree.now.directory c.remove-others.result (get name_cmp c.args.index.now c.args.tree.now.branch) c.in_ok-directories.directories c.in_ok-directories.ensures c.in_ok-try_clone.ensures c.remove-others.ensures.value) ok
