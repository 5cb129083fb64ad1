use Rattle.fetch_files.proofs.FiniteMaps.{from_remove}
use Rattle.fetch_files.proofs.TreeChanges.{path_cmp_total, path_cmp_exact}
use Rattle.fetch_files.proofs.file_tree.remove.Goals as goal

pub returns : goal.returns
returns c = from_remove path_cmp_total path_cmp_exact _ _ _ c.remove.ensures.updates.0
