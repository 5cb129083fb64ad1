use Rattle.std.proofs.Common.{◌≡◌, map}
use Rattle.fetch_check.specs.Made.{edit_of}
use Rattle.fetch_check.proofs.making.edits_of.Given as goal

abbrev pub invariant-loop-name : goal.invariant-loop-name
invariant-loop-name l = l.edits.items ≡ map edit_of l.yielded
