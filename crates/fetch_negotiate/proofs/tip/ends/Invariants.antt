use Rattle.std.proofs.Common.{◌≡◌, ◌++◌}
use Rattle.std.specs.FinMap.{entries}
use Rattle.std.specs.List.{filter_map}
use Rattle.fetch_refs.specs.Iter.{left}
use Rattle.fetch_refs.specs.TagEnds.{AreEnds}
use Rattle.fetch_negotiate.specs.Tips.{tip_of}
use Rattle.fetch_negotiate.proofs.tip.ends.Given as goal

abbrev pub invariant-loop-name : goal.invariant-loop-name
invariant-loop-name g l = record {
  ids : l.ids.items ++ filter_map (tip_of l.refs.names (g.O.Objects.graph l.objects)) (left l.name-iterator) ≡ filter_map (tip_of l.refs.names (g.O.Objects.graph l.objects)) (entries l.refs.names);
  known : AreEnds (g.O.Objects.graph l.objects) l.known;
}
