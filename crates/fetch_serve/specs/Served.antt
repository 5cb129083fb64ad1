-- What a server gives from: the objects and the references of a repository.
use Rattle.std.specs.Prelude.{ℕ, List, filter}
use Rattle.std.specs.FinMap as map
use Rattle.fetch_store.specs.Graph.{Graph, graph_of}
use Rattle.fetch_store.specs.Stores.{ObjectMap, StoreValue}
use Rattle.fetch_base.specs.declared.id.Kind.{Kind}
use Rattle.fetch_refs.specs.Names.{Names, RefsValue}
use Rattle.fetch_refs.specs.declared.target.Target.{Target}
use Rattle.fetch_specs.specs.Names.{is_full_name}

-- the hash, the objects by id, and the references by name
pub record Data : Type 0 where
  pub hash : Kind
  pub objects : ObjectMap
  pub names : Names

-- what a store and references hold
abbrev pub data_of : StoreValue → RefsValue → Data
data_of store refs = record { hash = store.hash; objects = store.objects; names = refs.names }

-- the references by ascending name; each name of a repository is a full one
abbrev pub references_of : Data → List (List ℕ × Target)
references_of d = filter (λ e. is_full_name e.0) (map.entries d.names)

-- what histories are read from
abbrev pub history_of : Data → Graph
history_of d = graph_of d.objects
