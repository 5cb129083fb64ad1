use Rattle.std.proofs.Common.{◌≡◌}
use Rattle.std.specs.List.{find}
use Rattle.fetch_lookup.proofs.Meant.{meant}
use Rattle.fetch_lookup.proofs.names.first_meant.Given as goal

abbrev pub invariant-loop-name : goal.invariant-loop-name
invariant-loop-name l = find (meant l.single) l.name-iterator ≡ find (meant l.single) l.fn.names.keys
