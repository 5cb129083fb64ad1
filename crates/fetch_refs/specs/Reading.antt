-- Reading a packed text: the entries that it has, and where it goes on otherwise.
use Rattle.std.specs.Prelude.{◌≡◌, ℕ, ◌<◌, List, [], ◌∷◌, ◌++◌, length, Some, Result, Ok, Err, IsTrue, ◌⊎◌}
use Rattle.std.specs.FinMap as map
use Rattle.std.specs.List.{AllByRecursion}
use Rattle.std.specs.declared.cmp.Ordering.TheVariants.{Less}
use Rattle.hex.specs.Hex.{encode_lower}
use Rattle.fetch_specs.specs.Names.{is_full_name}
use Rattle.fetch_base.specs.Id.{bytes_of, id_in_hex}
use Rattle.fetch_base.specs.declared.id.Kind.{Kind}
use Rattle.fetch_base.specs.declared.id.ObjectId.{ObjectId}
use Rattle.fetch_refs.specs.declared.error.PackedError.{PackedError}
use Rattle.fetch_refs.specs.declared.error.PackedError.TheVariants as errors
use Rattle.fetch_refs.specs.declared.target.Target.TheVariants.{Object}
use Rattle.fetch_refs.specs.Names.{PackedList, RefsValue, name_cmp}
use Rattle.fetch_refs.specs.Packed.{packed_line, packed_text}
use Rattle.fetch_refs.specs.Slots.{over, each}

-- An entry for this hash: its id is what its digits spell, and its name is a full one.
pub record IsEntry (kind : Kind) (e : List ℕ × ObjectId) : Type 0 where
  pub id : id_in_hex kind (encode_lower (bytes_of e.1)) ≡ Some e.1
  pub name : IsTrue (is_full_name e.0)

-- each name of the list, with its id, is an entry
abbrev pub AreEntries : Kind → PackedList → Type 0
AreEntries kind list = AllByRecursion (IsEntry kind) (map.entries list)

-- the references that a packed list alone gives
abbrev pub references_of : Kind → PackedList → RefsValue
references_of kind list = record {
  hash = kind;
  names = over map.empty (each (λ id. Some (Object id)) (map.entries list));
  logs = map.empty;
  packed = list;
}

-- The text is the lines of a list, of that many bytes, and then the rest.
pub record GoesOnAt (kind : Kind) (text : List ℕ) (place : ℕ) (list : PackedList) (rest : List ℕ) : Type 0 where
  pub entries : AreEntries kind list
  pub whole : text ≡ packed_text list ++ rest
  pub len : length (packed_text list) ≡ place

-- The text is that of a list, and the references are those that the list gives.
pub record IsReadAs (kind : Kind) (text : List ℕ) (refs : RefsValue) : Type 0 where
  pub entries : AreEntries kind refs.packed
  pub whole : text ≡ packed_text refs.packed
  pub alone : refs ≡ references_of kind refs.packed

-- After the lines of a list there is more text, and no entry's line begins it.
pub record IsNoLineAt (kind : Kind) (text : List ℕ) (place : ℕ) : Type 0 where
  pub list : PackedList
  pub rest : List ℕ
  pub before : GoesOnAt kind text place list rest
  pub some : 0 < length rest
  pub none : (e : List ℕ × ObjectId) (more : List ℕ) → IsEntry kind e → rest ≡ packed_line e ++ more → ⊥

-- After the lines of a list there is the line of an entry whose name isn't above the last one of the list.
pub record IsOutOfOrderAt (kind : Kind) (text : List ℕ) (place : ℕ) : Type 0 where
  pub list : PackedList
  pub others : List (List ℕ × ObjectId)
  pub last : List ℕ × ObjectId
  pub next : List ℕ × ObjectId
  pub more : List ℕ
  pub before : GoesOnAt kind text place list (packed_line next ++ more)
  pub ends : map.entries list ≡ others ++ last ∷ []
  pub entry : IsEntry kind next
  pub below : name_cmp last.0 next.0 ≡ Less → ⊥

-- The answer is this one exactly where the fact holds, unless memory ran out.
pub record AnswersWhere {X : Type 0} (found answer : Result X PackedError) (fact : Type 0) : Type 0 where
  pub told : found ≡ answer → fact
  pub always : fact → (found ≡ answer) ⊎ (found ≡ Err errors.NoMemory)

-- why a text is refused: a line of it, or want of memory where it is a packed one
abbrev pub IsRefusedAs : Kind → List ℕ → PackedError → Type 0
IsRefusedAs kind text (errors.Line place) = IsNoLineAt kind text place
IsRefusedAs kind text (errors.Order place) = IsOutOfOrderAt kind text place
IsRefusedAs kind text errors.NoMemory = (refs : RefsValue) × IsReadAs kind text refs

-- what is answered for a text, with ample memory
abbrev pub IsAnswer : Kind → List ℕ → Result RefsValue PackedError → Type 0
IsAnswer kind text (Ok refs) = IsReadAs kind text refs
IsAnswer kind text (Err (errors.Line place)) = IsNoLineAt kind text place
IsAnswer kind text (Err (errors.Order place)) = IsOutOfOrderAt kind text place
IsAnswer kind text (Err errors.NoMemory) = ⊥
