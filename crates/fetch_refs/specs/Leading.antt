-- Ways of symbolic references and of tags, as lists: each one leads to the next.
use Rattle.std.specs.Prelude.{◌≡◌, ℕ, ◌<◌, ◌≤◌, List, [], ◌∷◌, length, Option, Some, None, Result, Ok, Err, ◌⊎◌}
use Rattle.std.specs.FinMap as map
use Rattle.std.specs.List.{Contains, IsDistinct}
use Rattle.std.specs.Option.{option_and_then}
use Rattle.std.specs.Ordering.{eq_by_cmp}
use Rattle.std.specs.Str.{bytes_eq}
use Rattle.fetch_store.specs.Graph.{Graph, Node}
use Rattle.fetch_base.specs.Id.{id_cmp}
use Rattle.fetch_base.specs.declared.id.ObjectId.{ObjectId}
use Rattle.fetch_refs.specs.declared.error.RefError.{RefError}
use Rattle.fetch_refs.specs.declared.error.RefError.TheVariants as errors
use Rattle.fetch_refs.specs.declared.target.Target.{Target}
use Rattle.fetch_refs.specs.declared.target.Target.TheVariants.{Object, Symbolic}
use Rattle.fetch_refs.specs.Names.{Names}

-- The way begins at the first, each of its steps leads to the next one, and its end is where the last step leads.
abbrev pub Leads : {A : Type 0} → (A → Option A) → A → List A → A → Type 0
Leads next first [] end = first ≡ end
Leads {A} next first (x ∷ xs) end = (first ≡ x) × ((y : A) × (next x ≡ Some y) × Leads next y xs end)

-- the name that a symbolic reference has
abbrev pub name_in : Target → Option (List ℕ)
name_in (Object id) = None
name_in (Symbolic name) = Some name

-- where a symbolic reference leads
abbrev pub next_name : Names → List ℕ → Option (List ℕ)
next_name names name = option_and_then name_in (map.get names name)

-- Distinct symbolic references lead from the first name to the end.
pub record IsNameWay (names : Names) (first : List ℕ) (way : List (List ℕ)) (end : List ℕ) : Type 0 where
  pub leads : Leads (next_name names) first way end
  pub distinct : IsDistinct bytes_eq way

-- Where the names end: at the id of a direct reference, at a name where nothing stands, at a name of the way, or, after five of them, at a
-- further one.
abbrev pub EndsNames : Names → List ℕ → Result ObjectId RefError → Type 0
EndsNames names first (Ok id) = (way : List (List ℕ)) × (end : List ℕ) × IsNameWay names first way end × (length way < 5)
    × (map.get names end ≡ Some (Object id))
EndsNames names first (Err (errors.Unborn end)) = (way : List (List ℕ)) × IsNameWay names first way end × (length way < 5)
    × (map.get names end ≡ None)
EndsNames names first (Err (errors.Cycle end)) = (way : List (List ℕ)) × IsNameWay names first way end × (length way ≤ 5) × Contains way end
EndsNames names first (Err (errors.Depth end)) = (way : List (List ℕ)) × IsNameWay names first way end × (length way ≡ 5)
    × (Contains way end → ⊥)
EndsNames names first (Err e) = ⊥

-- where a stored tag leads
abbrev pub next_tag : Graph → ObjectId → Option ObjectId
next_tag graph id = option_and_then (λ (n : Node). n.target) (map.get graph id)

-- Distinct stored tags lead from the first id to the end.
pub record IsTagWay (graph : Graph) (first : ObjectId) (way : List ObjectId) (end : ObjectId) : Type 0 where
  pub leads : Leads (next_tag graph) first way end
  pub distinct : IsDistinct (eq_by_cmp id_cmp) way

-- Where the tags end: at an object that is stored and no tag, at an id that isn't stored, or at a tag of the way.
abbrev pub EndsTags : Graph → ObjectId → Result ObjectId RefError → Type 0
EndsTags graph first (Ok id) = (way : List ObjectId) × IsTagWay graph first way id
    × ((n : Node) × (map.get graph id ≡ Some n) × (n.target ≡ None))
EndsTags graph first (Err (errors.MissingObject id)) = (way : List ObjectId) × IsTagWay graph first way id × (map.get graph id ≡ None)
EndsTags graph first (Err (errors.TagCycle id)) = (way : List ObjectId) × IsTagWay graph first way id × Contains way id
EndsTags graph first (Err e) = ⊥

-- a direct reference's id as it stands
abbrev pub IsDirectlyAt : Names → List ℕ → Result ObjectId RefError → Type 0
IsDirectlyAt names name answer = (id : ObjectId) × (map.get names name ≡ Some (Object id)) × (answer ≡ Ok id)

-- after the names of a symbolic reference, where the tags end
abbrev pub IsBehindTags : Names → Graph → List ℕ → Result ObjectId RefError → Type 0
IsBehindTags names graph name answer = (to : List ℕ) × (id : ObjectId) × (map.get names name ≡ Some (Symbolic to))
    × EndsNames names name (Ok id) × EndsTags graph id answer

-- the refusal of the names
abbrev pub IsRefusedByNames : Names → List ℕ → Result ObjectId RefError → Type 0
IsRefusedByNames names name answer = (e : RefError) × EndsNames names name (Err e) × (answer ≡ Err e)

-- What peeling a name answers, in each of its three cases.
abbrev pub IsPeeledTo : Names → Graph → List ℕ → Result ObjectId RefError → Type 0
IsPeeledTo names graph name answer = IsDirectlyAt names name answer ⊎ IsBehindTags names graph name answer
    ⊎ IsRefusedByNames names name answer
