use Rattle.fetch_files.proofs.TreeChanges.{unmade}
use Rattle.fetch_files.proofs.file_tree.FileTree.«+place».Goals as goal

pub returns-in-Err-clause-err : goal.returns-in-Err-clause-err
returns-in-Err-clause-err t c =
    unmade _ _ _ _ _ c.in_ok-is_new-in-len1-up.is_new c.in_ok-is_new-in-len1-up.ensures.new c.in_ok-is_new-in-len1-up.ensures.made c.in-Err.ensures.err c.remove_if.ensures
