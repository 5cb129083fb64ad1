use Rattle.std.proofs.Common.{◌≡◌, length, map, filter}
use Rattle.std.specs.Prelude.{slice_get}
use Rattle.fetch_store.specs.Graph.{graph_of}
use Rattle.fetch_refs.specs.Iter.{left}
use Rattle.fetch_refs.specs.TagEnds.{AreEnds}
use Rattle.fetch_specs.specs.Names.{is_full_name}
use Rattle.fetch_serve.specs.Parts.{held_by}
use Rattle.fetch_serve.specs.Servable.{is_unservable, unservable_names}
use Rattle.fetch_serve.proofs.servable.first_unservable.Given as goal

abbrev pub invariant-loop-name : goal.invariant-loop-name
invariant-loop-name l = record {
  first : slice_get (map (λ e. e.0) (filter (is_unservable (held_by l.parts)) (filter (λ e. is_full_name e.0) (left l.references)))) 0 ≡ slice_get (unservable_names (held_by l.parts)) 0;
  known : AreEnds (graph_of l.parts.store.now.objects) l.known;
}

abbrev pub decreases-loop-name : goal.decreases-loop-name
decreases-loop-name l = length (left l.references)
