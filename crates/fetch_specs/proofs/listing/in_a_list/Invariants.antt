use Rattle.std.proofs.Common.{◌≡◌, ◌++◌}
use Rattle.fetch_specs.proofs.listing.in_a_list.Given as goal

abbrev pub invariant-loop-text : goal.invariant-loop-text
invariant-loop-text l = l.list.items ++ l.text-iterator ≡ l.fn.texts.keys
