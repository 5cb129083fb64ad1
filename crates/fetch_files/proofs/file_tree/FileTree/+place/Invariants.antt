use Rattle.std.proofs.Common.{length}
use Rattle.fetch_files.proofs.file_tree.FileTree.«+place».Given as goal

abbrev pub decreases-place : goal.decreases-place
decreases-place l = length l.paths.now
