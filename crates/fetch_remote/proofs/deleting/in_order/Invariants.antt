use Rattle.std.proofs.Common.{◌≡◌, drop}
use Rattle.fetch_lookup.specs.Ordered.{placed}
use Rattle.fetch_refs.specs.Names.{name_cmp}
use Rattle.fetch_remote.specs.Deleting.{in_order}
use Rattle.fetch_remote.proofs.deleting.in_order.Given as goal

abbrev pub invariant-loop-name : goal.invariant-loop-name
invariant-loop-name l = placed name_cmp l.set.keys (drop l.name-index l.names) ≡ in_order l.names
