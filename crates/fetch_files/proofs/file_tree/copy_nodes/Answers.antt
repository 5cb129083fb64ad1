use Rattle.fetch_files.proofs.FiniteMaps.{one-more}
use Rattle.fetch_files.proofs.TreeChanges.{path_cmp_total}
use Rattle.fetch_files.proofs.file_tree.copy_nodes.Goals as goal

pub nodes-preserved : goal.nodes-preserved
nodes-preserved c =
    (one-more path_cmp_total c.args.nodes.now.entries c.nodes.copy.entries c.nodes.key-iterator c.next.new.self c.put.new.nodes.entries _ _ _ _ c.nodes.invariant.1 c.nodes.invariant.0 c.in-Some.ensures.steps c.in_ok-put.ensures.entries c.in_ok-try_clone.ensures c.in_ok-copy_node.ensures, c.nodes.invariant.1)
