use Rattle.std.proofs.Common.{◌∙◌}
use Rattle.fetch_files.proofs.FiniteMaps.{get-from}
use Rattle.fetch_files.proofs.TreeChanges.{path_cmp_total, path_cmp_exact}
use Rattle.fetch_files.proofs.file_tree.find.Goals as goal

pub returns : goal.returns
returns c = c.get.ensures.value ∙ get-from path_cmp_total path_cmp_exact c.args.nodes.now.entries c.args.path.now
