-- Sections of branches go, one by one.
use Rattle.std.proofs.Common.{◌≡◌, ℕ, Bool, true, false, not, ◌||◌, List, [], ◌∷◌, refl, ap, ◌∙◌}
use Rattle.std.specs.Prelude.{filter, if◌then◌else◌}
use Rattle.std.specs.List.{flat_map, list_any}
use Rattle.fetch_config.specs.Contents.{Contents, with_sections}
use Rattle.fetch_config.specs.declared.section.Section.{Section}
use Rattle.fetch_lookup.specs.Removed.{is_branch_of, without_branches}

abbrev pub gone_at : List (List ℕ) → Section → List Section
gone_at names s = if is_branch_of names s then [] else s ∷ []

gone-by : {A : Type 0} (p : A → Bool) (x : A) (xs : List A) (b : Bool) → p x ≡ b → flat_map (λ y. if p y then [] else y ∷ []) xs ≡ filter (λ y. not (p y)) xs → flat_map (λ y. if p y then [] else y ∷ []) (x ∷ xs) ≡ filter (λ y. not (p y)) (x ∷ xs)
gone-by p x xs true e rest = rw e rest
gone-by p x xs false e rest = rw e (ap (λ ys. x ∷ ys) rest)

others : {A : Type 0} (p : A → Bool) (xs : List A) → flat_map (λ y. if p y then [] else y ∷ []) xs ≡ filter (λ y. not (p y)) xs
others p [] = refl
others p (x ∷ xs) = gone-by p x xs (p x) refl (others p xs)

pub all-gone : (names : List (List ℕ)) (file : Contents) → with_sections file (flat_map (gone_at names) file.sections) ≡ without_branches names file
unfolding without_branches
all-gone names file = ap (with_sections file) (others (is_branch_of names) file.sections)

pub any-same : {A : Type 0} (p q : A → Bool) → ((x : A) → p x ≡ q x) → (xs : List A) → list_any p xs ≡ list_any q xs
any-same p q same [] = refl
any-same p q same (x ∷ xs) = ap (λ b. b || list_any p xs) (same x) ∙ ap (λ b. q x || b) (any-same p q same xs)
