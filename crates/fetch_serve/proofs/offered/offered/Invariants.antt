use Rattle.std.proofs.Common.{◌≡◌, ◌++◌, length, filter}
use Rattle.std.specs.List.{filter_map}
use Rattle.fetch_store.specs.Graph.{graph_of}
use Rattle.fetch_refs.specs.Iter.{left}
use Rattle.fetch_refs.specs.TagEnds.{AreEnds}
use Rattle.fetch_specs.specs.Names.{is_full_name}
use Rattle.fetch_serve.specs.Offered.{offer, offered_of}
use Rattle.fetch_serve.specs.Parts.{held_by}
use Rattle.fetch_serve.proofs.offered.offered.Given as goal

abbrev pub invariant-loop-name : goal.invariant-loop-name
invariant-loop-name l = record {
  found : l.found.items ++ filter_map (offer (held_by l.parts) l.wanted.unborn l.wanted.prefixes.now) (filter (λ e. is_full_name e.0) (left l.references)) ≡ offered_of (held_by l.parts) l.wanted.unborn l.wanted.prefixes.now;
  known : AreEnds (graph_of l.parts.store.now.objects) l.known;
}

abbrev pub decreases-loop-name : goal.decreases-loop-name
decreases-loop-name l = length (left l.references)
