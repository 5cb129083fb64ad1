use Rattle.std.proofs.Common.{◌≡◌, take}
use Rattle.std.specs.List.{filter_map}
use Rattle.fetch_negotiate.specs.Wants.{want_in}
use Rattle.fetch_negotiate.proofs.wanted.mapped.Given as goal

abbrev pub invariant-loop-mapping : goal.invariant-loop-mapping
invariant-loop-mapping g l = l.ids.items ≡ filter_map (want_in l.tags l.shallow (g.O.Objects.graph l.objects) l.extra) (take l.mapping-index l.mappings)
