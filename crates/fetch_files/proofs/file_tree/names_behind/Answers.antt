use Rattle.fetch_files.specs.Paths.{parts_of}
use Rattle.fetch_files.proofs.TreeChanges.{names_all}
use Rattle.fetch_files.proofs.file_tree.names_behind.Goals as goal

pub returns : goal.returns
returns c = names_all (parts_of c.args.path.now) c.keys.names.items c.keys.key-iterator c.args.nodes.now.entries c.in-None.ensures.steps.0 c.keys.invariant.0 c.keys.invariant.1
