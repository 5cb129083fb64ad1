-- References without some names, and without the reflogs of these.
use Rattle.std.specs.Prelude.{ℕ, Bool, List, [], ◌∷◌}
use Rattle.std.specs.List.{list_any}
use Rattle.std.specs.Str.{bytes_eq}
use Rattle.std.specs.FinMap as map
use Rattle.fetch_refs.specs.declared.edit.Change.TheVariants.{Delete}
use Rattle.fetch_refs.specs.declared.edit.PreviousValue.TheVariants.{Any}
use Rattle.fetch_refs.specs.declared.edit.RefEdit.{RefEdit}
use Rattle.fetch_refs.specs.declared.edit.RefLog.TheVariants.{AndReference}
use Rattle.fetch_refs.specs.Names.{RefsValue}

-- without what stands at a name: a reference, a reflog, an entry of the packed list
abbrev pub without_name : RefsValue → List ℕ → RefsValue
without_name refs name = record {
  hash = refs.hash;
  names = map.remove refs.names name;
  logs = map.remove refs.logs name;
  packed = map.remove refs.packed name;
}

-- without what stands at these names
abbrev pub without : RefsValue → List (List ℕ) → RefsValue
without refs [] = refs
without refs (name ∷ names) = without (without_name refs name) names

-- whether the name is one of these
abbrev pub is_among : List (List ℕ) → List ℕ → Bool
is_among names name = list_any (bytes_eq name) names

-- the edit that deletes a name with its reflog, whatever stands there
abbrev pub deletion : List ℕ → RefEdit
deletion name = record { change = Delete Any AndReference; name = name }
