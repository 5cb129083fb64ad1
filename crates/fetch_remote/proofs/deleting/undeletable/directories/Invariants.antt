use Rattle.std.proofs.Common.{◌≡◌, drop}
use Rattle.std.specs.List.{flat_map}
use Rattle.fetch_lookup.specs.Ordered.{ascending, placed}
use Rattle.fetch_refs.specs.Names.{name_cmp}
use Rattle.fetch_remote.specs.DeletionSteps.{directory_of}
use Rattle.fetch_remote.proofs.deleting.undeletable.directories.Given as goal

abbrev pub invariant-loop-tree : goal.invariant-loop-tree
invariant-loop-tree l = placed name_cmp l.directories.keys (flat_map (directory_of l.name) (drop l.tree-index l.trees)) ≡ ascending name_cmp (flat_map (directory_of l.name) l.trees)
