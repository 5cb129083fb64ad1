use Rattle.std.proofs.Common.{◌≡◌, take, map}
use Rattle.std.specs.List.{filter}
use Rattle.fetch_specs.specs.Conflicts.{is_double, sourced, destinations_of}
use Rattle.fetch_specs.proofs.Taking.{HasOthers}
use Rattle.fetch_specs.proofs.conflict.conflicts.Given as goal

abbrev pub invariant-loop-i : goal.invariant-loop-i
invariant-loop-i l = record {
  found : l.found.items ≡ filter is_double (map (sourced l.matches) (destinations_of (take l.i l.matches)));
  others : HasOthers l.matches (take l.i l.matches) l.sources.entries;
}
