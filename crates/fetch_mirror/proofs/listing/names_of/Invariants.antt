use Rattle.std.proofs.Common.{◌≡◌, take}
use Rattle.std.specs.List.{filter_map}
use Rattle.fetch_mirror.specs.Naming.{own_name}
use Rattle.fetch_mirror.proofs.listing.names_of.Given as goal

abbrev pub invariant-loop-reference : goal.invariant-loop-reference
invariant-loop-reference l = l.names.items ≡ filter_map own_name (take l.reference-index l.refs)
