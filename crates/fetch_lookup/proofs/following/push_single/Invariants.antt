use Rattle.std.proofs.Common.{◌≡◌, ◌++◌, drop}
use Rattle.std.specs.List.{flat_map}
use Rattle.fetch_lookup.specs.Upstreams.{name_where, is_single}
use Rattle.fetch_lookup.proofs.following.push_single.Given as goal

abbrev pub invariant-loop-leading : goal.invariant-loop-leading
invariant-loop-leading l = l.names.items ++ flat_map (name_where is_single) (drop l.leading-index l.found) ≡ l.fn.names.items ++ flat_map (name_where is_single) l.found
