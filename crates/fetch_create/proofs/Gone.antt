-- Sections go that others take the place of, one by one.
use Rattle.std.proofs.Common.{◌≡◌, Bool, true, false, not, List, [], ◌∷◌, refl, ap}
use Rattle.std.specs.Prelude.{filter, if◌then◌else◌}
use Rattle.std.specs.List.{flat_map}
use Rattle.fetch_config.specs.Contents.{Contents, with_sections}
use Rattle.fetch_config.specs.declared.section.Section.{Section}
use Rattle.fetch_create.specs.Replacing.{is_replaced, without_replaced}

abbrev pub gone_at : List Section → Section → List Section
gone_at news s = if is_replaced news s then [] else s ∷ []

gone-by : {A : Type 0} (p : A → Bool) (x : A) (xs : List A) (b : Bool) → p x ≡ b → flat_map (λ y. if p y then [] else y ∷ []) xs ≡ filter (λ y. not (p y)) xs → flat_map (λ y. if p y then [] else y ∷ []) (x ∷ xs) ≡ filter (λ y. not (p y)) (x ∷ xs)
gone-by p x xs true e rest = rw e rest
gone-by p x xs false e rest = rw e (ap (λ ys. x ∷ ys) rest)

pub others : {A : Type 0} (p : A → Bool) (xs : List A) → flat_map (λ y. if p y then [] else y ∷ []) xs ≡ filter (λ y. not (p y)) xs
others p [] = refl
others p (x ∷ xs) = gone-by p x xs (p x) refl (others p xs)

pub all-gone : (news : List Section) (file : Contents) → with_sections file (flat_map (gone_at news) file.sections) ≡ without_replaced news file
unfolding without_replaced
all-gone news file = ap (with_sections file) (others (is_replaced news) file.sections)
