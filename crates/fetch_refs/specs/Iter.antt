-- References in the order of their names.
use Rattle.std.specs.Prelude.{ℕ, List, [], ◌∷◌, Option, Some, None}
use Rattle.std.specs.Borrow.{Bor}
use Rattle.std.specs.Coded.{Coded, coded_ℕ, coded_list, coded×}
use Rattle.fetch_refs.specs.declared.slot.Slot.{Slot}
use Rattle.fetch_refs.specs.declared.target.Target.{Target}
use Rattle.fetch_refs.specs.declared.target.TargetRef.{TargetRef}
use Rattle.fetch_refs.specs.Codes.{coded_target}
use Rattle.fetch_refs.specs.Contents.{value_of}
use Rattle.fetch_refs.specs.Slots.{each}
use Rattle.fetch_refs.specs.Targets.{seen}

-- a value in front of others, if it stands
abbrev pub stands : {X : Type 0} → List ℕ → Option X → List (List ℕ × X) → List (List ℕ × X)
stands name None rest = rest
stands name (Some x) rest = (name, x) ∷ rest

-- the values that stand
abbrev pub standing : {X : Type 0} → List (List ℕ × Option X) → List (List ℕ × X)
standing [] = []
standing (e ∷ es) = stands e.0 e.1 (standing es)

-- references by ascending name
abbrev pub References : Type 0
References = List (List ℕ × Target)

-- references in order, coded
abbrev pub coded_references : Coded References
coded_references = coded_list (coded× (coded_list coded_ℕ) coded_target)

-- the references that stand in places
abbrev pub standing_in : List (List ℕ × Slot) → References
standing_in es = standing (each value_of es)

-- the references that are still to come
abbrev pub left : References → References
left it = it

-- what an item shows
abbrev pub shown : Bor (List ℕ) × TargetRef → List ℕ × Target
shown item = (item.0.now, seen item.1)
