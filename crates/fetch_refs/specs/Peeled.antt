-- The id that a name stands for.
use Rattle.std.specs.Prelude.{ℕ, zero, suc, Bool, true, false, List, [], ◌∷◌, ◌++◌, Option, Some, None, Result, Ok, Err, if◌then◌else◌}
use Rattle.std.specs.FinMap as map
use Rattle.std.specs.List.{list_any}
use Rattle.std.specs.Option.{option_map_or}
use Rattle.std.specs.Ordering.{eq_by_cmp}
use Rattle.std.specs.Str.{bytes_eq}
use Rattle.fetch_store.specs.Graph.{Graph, Node}
use Rattle.fetch_base.specs.Id.{id_cmp}
use Rattle.fetch_base.specs.declared.id.ObjectId.{ObjectId}
use Rattle.fetch_refs.specs.declared.error.RefError.{RefError}
use Rattle.fetch_refs.specs.declared.error.RefError.TheVariants as errors
use Rattle.fetch_refs.specs.declared.target.Target.{Target}
use Rattle.fetch_refs.specs.declared.target.Target.TheVariants.{Object, Symbolic}
use Rattle.fetch_refs.specs.Names.{Names}

-- whether a name was met
abbrev pub is_met : List (List ℕ) → List ℕ → Bool
is_met met name = list_any (λ n. bytes_eq n name) met

-- what a reference says: it is absent, it has an id, or it goes on at another name
abbrev pub read : {X : Type 0} → List ℕ → Option Target → (ObjectId → Result X RefError) → (List ℕ → Result X RefError) → Result X RefError
read name None direct next = Err (errors.Unborn name)
read name (Some (Object id)) direct next = direct id
read name (Some (Symbolic target)) direct next = next target

-- The id at the end of a way of symbolic references, which met these names so far and may meet that many more.
unfoldable pub follow : Names → ℕ → List (List ℕ) → List ℕ → Result ObjectId RefError
follow names zero met name = Err (if is_met met name then errors.Cycle name else errors.Depth name)
follow names (suc left) met name =
    if is_met met name then Err (errors.Cycle name)
    else read name (map.get names name) (λ id. Ok id) (λ target. follow names left (met ++ name ∷ []) target)

-- The id that a reference leads to by names, of which there are five at most, and its own is the first.
abbrev pub resolved : Names → List ℕ → Target → Result ObjectId RefError
resolved names name target = read name (Some target) (λ id. Ok id) (λ next. follow names 4 (name ∷ []) next)

-- whether a tag was met
abbrev pub is_met_id : List ObjectId → ObjectId → Bool
is_met_id met id = list_any (λ m. eq_by_cmp id_cmp m id) met

-- the id that is no tag, or the next one after a tag
abbrev pub open_tag : ObjectId → Option Node → (ObjectId → Result ObjectId RefError) → Result ObjectId RefError
open_tag id None next = Err (errors.MissingObject id)
open_tag id (Some node) next = option_map_or next node.target (Ok id)

-- The id at the end of a way through stored tags, which met these ids so far and may meet that many more.
-- Where all stored ids were met, another one isn't stored.
unfoldable pub through : Graph → ℕ → List ObjectId → ObjectId → Result ObjectId RefError
through graph zero met id = Err (if is_met_id met id then errors.TagCycle id else errors.MissingObject id)
through graph (suc left) met id =
    if is_met_id met id then Err (errors.TagCycle id)
    else open_tag id (map.get graph id) (λ target. through graph left (met ++ id ∷ []) target)

-- the id of an object that is stored
abbrev pub stopped : ObjectId → Option Node → Result ObjectId RefError
stopped id None = Err (errors.MissingObject id)
stopped id (Some n) = Ok id

-- whether an answer is a refusal with a name, which is copied
abbrev pub has_name : Result ObjectId RefError → Bool
has_name (Err (errors.Unborn name)) = true
has_name (Err (errors.Cycle name)) = true
has_name (Err (errors.Depth name)) = true
has_name answer = false

-- the next step, where the one before gave an id
abbrev pub and_then : Result ObjectId RefError → (ObjectId → Result ObjectId RefError) → Result ObjectId RefError
and_then (Ok id) next = next id
and_then (Err e) next = Err e

-- A direct reference's id as it stands. A symbolic one is followed over five names at most, and then tags are peeled.
unfoldable pub peeled : Names → Graph → List ℕ → Result ObjectId RefError
peeled names graph name =
    read name (map.get names name) (λ id. Ok id) (λ _. and_then (follow names 5 [] name) (through graph (map.len graph) []))
