-- The references of a server that are mirrored.
use Rattle.std.specs.Prelude.{ℕ, List, map, nat_eq, Option, None, if◌then◌else◌}
use Rattle.std.specs.List.{filter_map, starts_with}
use Rattle.std.specs.Option.{option_map}
use Rattle.std.specs.Result.{result_ok}
use Rattle.fetch_base.specs.declared.id.ObjectId.{ObjectId}
use Rattle.fetch_specs.specs.Categories.{refs}
use Rattle.fetch_refs.specs.Peeled.{resolved}
use Rattle.fetch_refs.specs.declared.target.Target.{Target}
use Rattle.fetch_serve.specs.Served.{Data, references_of}

-- a reference under `refs/`, as the id that it leads to by names, where there is one
abbrev pub born : Data → List ℕ × Target → Option (List ℕ × ObjectId)
born d e = if starts_with nat_eq e.0 refs then option_map (λ id. (e.0, id)) (result_ok (resolved d.names e.0 e.1)) else None

-- the references of a server under `refs/` that aren't unborn, by ascending name, each as its id
abbrev pub born_of : Data → List (List ℕ × ObjectId)
born_of d = filter_map (born d) (references_of d)

-- their names
abbrev pub born_names : Data → List (List ℕ)
born_names d = map (λ e. e.0) (born_of d)
