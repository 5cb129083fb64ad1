-- How names are shared among workers.
use Rattle.std.specs.Prelude.{◌≡◌, ℕ, ◌+◌, ◌%◌, ◌==◌, Bool, if◌then◌else◌, List, [], ◌∷◌, ◌++◌, length, map, Some, slice_get, IsTrue}
use Rattle.std.specs.List.{Contains}
use Rattle.fetch_specs.specs.declared.operation.Operation.TheVariants.{Fetch}
use Rattle.fetch_specs.specs.declared.operation.Mode.TheVariants.{Force}
use Rattle.fetch_specs.specs.declared.found.Match.{Match}
use Rattle.fetch_specs.specs.Categories.{refs}
use Rattle.fetch_specs.specs.Matches.{leading}
use Rattle.fetch_specs.specs.Names.{is_full_name}
use Rattle.fetch_specs.specs.Specs.{Spec}

-- a name that is fetched as itself, by force
abbrev pub as_itself : List ℕ → Spec
as_itself name = record { operation = Fetch; mode = Force; source = Some name; destination = Some name }

-- the text of it
abbrev pub itself_text : List ℕ → List ℕ
itself_text name = 43 ∷ (name ++ 58 ∷ name)

-- the elements at the places that pass, the first one's place being this
abbrev pub at_places : {X : Type 0} → (ℕ → Bool) → ℕ → List X → List X
at_places passes i [] = []
at_places passes i (x ∷ xs) = if passes i then x ∷ at_places passes (i + 1) xs else at_places passes (i + 1) xs

-- what is dealt to one of so many workers: the names whose places are its number, modulo the count of workers
abbrev pub dealt_to : ℕ → ℕ → List (List ℕ) → List (List ℕ)
dealt_to workers worker names = at_places (λ i. i % workers == worker) 0 names

-- what it fetches
abbrev pub share_of : ℕ → ℕ → List (List ℕ) → List Spec
share_of workers worker names = map as_itself (dealt_to workers worker names)

-- Each of so many workers has its share.
pub record AreShares (workers : ℕ) (names : List (List ℕ)) (shares : List (List Spec)) : Type 0 where
  pub count : length shares ≡ workers
  pub each : (worker : ℕ) (share : List Spec) → slice_get shares worker ≡ Some share → share ≡ share_of workers worker names

-- ---- what a share maps

-- a full name under `refs/`
pub record IsUnderRefs (name : List ℕ) : Type 0 where
  pub full : IsTrue (is_full_name name)
  pub rest : List ℕ
  pub is : name ≡ refs ++ rest

-- no name stands at two places
abbrev pub AreOnce : List (List ℕ) → Type 0
AreOnce names = (i j : ℕ) (name : List ℕ) → slice_get names i ≡ Some name → slice_get names j ≡ Some name → i ≡ j

-- names under `refs/`, each once
pub record AreOwnNames (names : List (List ℕ)) : Type 0 where
  pub under : (i : ℕ) (name : List ℕ) → slice_get names i ≡ Some name → IsUnderRefs name
  pub once : AreOnce names

-- A name of the share that is listed is matched with itself, by its own refspec.
pub record IsOwnMatch (names listed : List (List ℕ)) (m : Match) : Type 0 where
  pub name : List ℕ
  pub item : ℕ
  pub shared : slice_get names m.spec_index ≡ Some name
  pub told : slice_get listed item ≡ Some name
  pub is : m ≡ leading m.spec_index item name name

-- Names that are dealt to so many workers: each goes to the one that its place says, and to no other, and none comes twice.
pub record AreDivided (workers : ℕ) (names : List (List ℕ)) : Type 0 where
  pub each : (i : ℕ) (name : List ℕ) → slice_get names i ≡ Some name → Contains (dealt_to workers (i % workers) names) name
  pub among : (worker : ℕ) (name : List ℕ) → Contains (dealt_to workers worker names) name → (i : ℕ) × (slice_get names i ≡ Some name)
      × (i % workers ≡ worker)
  pub own : (worker : ℕ) → AreOwnNames names → AreOwnNames (dealt_to workers worker names)
