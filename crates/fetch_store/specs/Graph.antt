-- What histories are read from: objects without their bytes.
use Rattle.std.specs.Prelude.{ℕ, Bool, false, List, map, Option, refl}
use Rattle.std.specs.Coded.{Coded, code_by, coded_ℕ, coded_list, coded_option, coded×}
use Rattle.std.specs.Option.{option_map_or}
use Rattle.std.specs.FinMap as finmap
use Rattle.fetch_base.specs.declared.id.ObjectId.{ObjectId}
use Rattle.fetch_base.specs.declared.object_kind.ObjectKind.{ObjectKind}
use Rattle.fetch_base.specs.declared.object_kind.ObjectKind.TheVariants.{Commit}
use Rattle.fetch_objects.specs.Objects.{Stored, parents_of, seconds_of, target_of}
use Rattle.fetch_base.specs.Kinds.{is_kind}
use Rattle.fetch_objects.specs.Codes.{coded_id, coded_object_kind}
use Rattle.fetch_store.specs.Stores.{ObjectMap}
use Rattle.fetch_base.specs.Id.{id_cmp}

-- what a graph keeps of an object
pub record Node : Type 0 where
  pub kind : ObjectKind
  -- of a commit
  pub parents : List ObjectId
  pub seconds : Option ℕ
  -- of a tag
  pub target : Option ObjectId

-- what a graph keeps of a stored object
abbrev pub node_of : Stored → Node
node_of o = record {
  kind = o.kind;
  parents = parents_of o.hash o.kind o.bytes;
  seconds = seconds_of o.hash o.kind o.bytes;
  target = target_of o;
}

-- nodes by id
abbrev pub Graph : Type 0
Graph = finmap.FinMap id_cmp Node

-- whether a commit stands at the id
abbrev pub is_commit_at : Graph → ObjectId → Bool
is_commit_at g id = option_map_or (λ n. is_kind n.kind Commit) (finmap.get g id) false

-- the same ids, with a node for each object
abbrev pub graph_of : ObjectMap → Graph
graph_of m = finmap.from_sorted (map (λ e. (e.0, node_of e.1)) (finmap.entries m))

-- a node, coded
abbrev pub coded_node : Coded Node
coded_node =
    code_by (ObjectKind × (List ObjectId × (Option ℕ × Option ObjectId)))
    (coded× coded_object_kind (coded× (coded_list coded_id) (coded× (coded_option coded_ℕ) (coded_option coded_id))))
    (λ n. (n.kind, (n.parents, (n.seconds, n.target))))
    (λ p. record { kind = p.0; parents = p.1.0; seconds = p.1.1.0; target = p.1.1.1 }) (λ _. refl)

-- a graph, coded
abbrev pub coded_graph : Coded Graph
coded_graph = finmap.code {R = id_cmp} coded_id coded_node
