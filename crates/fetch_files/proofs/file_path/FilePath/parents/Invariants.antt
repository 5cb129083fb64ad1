use Rattle.std.proofs.Common.{◌≡◌, take}
use Rattle.fetch_files.specs.Paths.{parents_of}
use Rattle.fetch_files.proofs.file_path.FilePath.parents.Given as goal

abbrev pub invariant-loop-depth : goal.invariant-loop-depth
invariant-loop-depth l = l.paths.items ≡ take l.depth (parents_of l.self)
