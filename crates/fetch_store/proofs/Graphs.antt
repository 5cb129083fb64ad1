-- The graph of a map has the node of each object.
use Rattle.std.proofs.Common.{◌≡◌, T, List, map, length, Option, sym, ap, subst, ◌∙◌}
use Rattle.std.specs.Prelude.{option_map}
use Rattle.std.specs.FinMap.{get, len, entries, entries_sorted, is_sorted, get-entries, get-from_sorted, len-entries, entries-from_sorted}
use Rattle.std.proofs.lemmas.List.{length-map}
use Rattle.fetch_base.specs.declared.id.ObjectId.{ObjectId}
use Rattle.fetch_objects.specs.Objects.{Stored}
use Rattle.fetch_store.specs.Stores.{Entries, ObjectMap}
use Rattle.fetch_base.specs.Id.{id_cmp}
use Rattle.fetch_store.specs.Graph.{Node, node_of, graph_of}
use Rattle.fetch_store.proofs.Viewed.{sorted, found}

abbrev pub nodes : Entries → List (ObjectId × Node)
nodes es = map (λ e. (e.0, node_of e.1)) es

pub all_sorted : (m : ObjectMap) → T (is_sorted id_cmp (map (λ e. (e.0, node_of e.1)) (entries m)))
all_sorted m = subst T (sym (sorted node_of (entries m))) (entries_sorted m)

pub get-graph_of : (m : ObjectMap) (q : ObjectId) → get (graph_of m) q ≡ option_map node_of (get m q)
get-graph_of m q = get-from_sorted id_cmp (map (λ e. (e.0, node_of e.1)) (entries m)) q (all_sorted m) ∙ found node_of q (entries m) ∙ ap (option_map node_of) (sym (get-entries m q))

pub len-graph_of : (m : ObjectMap) → len (graph_of m) ≡ len m
len-graph_of m = len-entries (graph_of m) ∙ ap length (entries-from_sorted id_cmp (map (λ e. (e.0, node_of e.1)) (entries m)) (all_sorted m)) ∙ length-map (entries m) (λ e. (e.0, node_of e.1)) ∙ sym (len-entries m)

-- the node at an id, by the object there
pub at : (m : ObjectMap) (q : ObjectId) (o : Option Stored) → o ≡ get m q → get (graph_of m) q ≡ option_map node_of o
at m q o is = get-graph_of m q ∙ ap (option_map node_of) (sym is)
