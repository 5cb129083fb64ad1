-- References and reflogs that have no id yet, and so may be of any hash.
use Rattle.std.specs.Prelude.{ℕ, Bool, true, false, ◌&&◌, List, [], ◌∷◌, Option, Some, None}
use Rattle.std.specs.List.{list_all}
use Rattle.std.specs.FinMap as map
use Rattle.fetch_base.specs.declared.id.Kind.{Kind}
use Rattle.fetch_refs.specs.declared.target.Target.{Target}
use Rattle.fetch_refs.specs.declared.target.Target.TheVariants.{Object, Symbolic}
use Rattle.fetch_refs.specs.Names.{RefsValue}

-- whether a list is empty
abbrev pub is_empty : {X : Type 0} → List X → Bool
is_empty [] = true
is_empty (x ∷ xs) = false

-- another name, and no id
abbrev pub is_name : Target → Bool
is_name (Object id) = false
is_name (Symbolic name) = true

-- whether a value is an id
abbrev pub is_id : Option Target → Bool
is_id (Some (Object id)) = true
is_id (Some (Symbolic name)) = false
is_id None = false

-- a reference that leads to a name
abbrev pub leads : List ℕ × Target → Bool
leads e = is_name e.1

-- Each reference leads to a name, and no reflog has a line.
abbrev pub has_no_ids : RefsValue → Bool
has_no_ids r = list_all leads (map.entries r.names) && is_empty (map.entries r.logs)

-- the same names, in a repository of this hash, and nothing packed
abbrev pub of_hash : Kind → RefsValue → RefsValue
of_hash kind r = record { hash = kind; names = r.names; logs = r.logs; packed = map.empty }
