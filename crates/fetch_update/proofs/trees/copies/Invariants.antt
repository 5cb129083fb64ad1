use Rattle.std.proofs.Common.{◌≡◌, ◌++◌}
use Rattle.std.specs.BTreeSet.{keys}
use Rattle.fetch_update.proofs.trees.copies.Given as goal

abbrev pub invariant-keys : goal.invariant-keys
invariant-keys l = l.texts.items ++ l.text-iterator ≡ keys l.directories
