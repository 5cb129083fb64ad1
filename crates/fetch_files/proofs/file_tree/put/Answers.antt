use Rattle.fetch_files.proofs.FiniteMaps.{from_insert}
use Rattle.fetch_files.proofs.TreeChanges.{path_cmp_total, path_cmp_exact}
use Rattle.fetch_files.proofs.file_tree.put.Goals as goal

pub returns-clause-as_map : goal.returns-clause-as_map
returns-clause-as_map c = from_insert path_cmp_total path_cmp_exact _ _ _ _ c.in_ok-insert.ensures.updates.0
