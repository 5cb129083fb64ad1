use Rattle.std.proofs.Common.{◌≡◌, drop, map}
use Rattle.fetch_specs.specs.Categories.{shortened}
use Rattle.fetch_lookup.specs.Ordered.{placed}
use Rattle.fetch_refs.specs.Names.{name_cmp}
use Rattle.fetch_remote.specs.Deleting.{short_names}
use Rattle.fetch_remote.proofs.deleting.short_names.Given as goal

abbrev pub invariant-loop-name : goal.invariant-loop-name
invariant-loop-name l = placed name_cmp l.short.keys (map shortened (drop l.name-index l.names)) ≡ short_names l.names
