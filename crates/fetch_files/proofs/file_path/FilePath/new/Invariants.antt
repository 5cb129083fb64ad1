use Rattle.std.proofs.Common.{◌≡◌, ◌+◌, ◌++◌, length}
use Rattle.std.specs.Option.{option_copied, option_map_or}
use Rattle.fetch_files.specs.Paths.{parts_in, parts_of}
use Rattle.fetch_files.proofs.file_path.FilePath.new.Given as goal

abbrev pub invariant-pieces : goal.invariant-pieces
invariant-pieces l = l.parts.items ++ parts_in (option_copied l.rest) ≡ parts_of l.path

abbrev pub decreases-pieces : goal.decreases-pieces
decreases-pieces l = option_map_or (λ text. length text + 1) (option_copied l.rest) 0
