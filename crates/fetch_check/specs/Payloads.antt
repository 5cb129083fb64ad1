-- What the lines of a bundle tell of references and of the border.
use Rattle.std.specs.Prelude.{◌≡◌, ℕ, List, [], ◌∷◌, ◌++◌, Some, IsTrue}
use Rattle.fetch_specs.specs.Names.{is_full_name}
use Rattle.fetch_base.specs.declared.id.Kind.{Kind}
use Rattle.fetch_base.specs.declared.id.ObjectId.{ObjectId}
use Rattle.fetch_base.specs.Digits.{hex_of}
use Rattle.fetch_base.specs.Id.{id_in_hex}
use Rattle.fetch_refs.specs.declared.target.Target.{Target}
use Rattle.fetch_refs.specs.declared.target.Target.TheVariants.{Object, Symbolic}
use Rattle.fetch_check.specs.Bundles.{border_text, ref_text}

-- an id of this hash, which is what its digits spell
abbrev pub IsOfHash : Kind → ObjectId → Type 0
IsOfHash hash id = id_in_hex hash (hex_of id) ≡ Some id

-- an id of this hash, or a full name
abbrev pub IsTarget : Kind → Target → Type 0
IsTarget hash (Object id) = IsOfHash hash id
IsTarget hash (Symbolic name) = IsTrue (is_full_name name)

-- A reference in a repository of this hash: its name is a full one, and it leads to an id of the hash or to a full name.
pub record IsReference (hash : Kind) (e : List ℕ × Target) : Type 0 where
  pub name : IsTrue (is_full_name e.0)
  pub target : IsTarget hash e.1

-- The payload tells this reference.
pub record TellsReference (hash : Kind) (payload : List ℕ) (e : List ℕ × Target) : Type 0 where
  pub text : payload ≡ ref_text e ++ 10 ∷ []
  pub is : IsReference hash e

-- The payload tells that the id is in the border.
pub record TellsBorder (hash : Kind) (payload : List ℕ) (id : ObjectId) : Type 0 where
  pub text : payload ≡ border_text id ++ 10 ∷ []
  pub of_hash : IsOfHash hash id
