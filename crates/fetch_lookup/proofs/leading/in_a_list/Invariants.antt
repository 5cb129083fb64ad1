use Rattle.std.proofs.Common.{◌≡◌, ◌++◌}
use Rattle.fetch_lookup.proofs.leading.in_a_list.Given as goal

abbrev pub invariant-loop-name : goal.invariant-loop-name
invariant-loop-name l = l.list.items ++ l.name-iterator ≡ l.fn.names.keys
