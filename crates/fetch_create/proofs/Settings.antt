-- Settings of a configuration change, section by section.
use Rattle.std.proofs.Common.{◌≡◌, ℕ, true, false, List, [], ◌∷◌, ◌++◌, length, Option, Some, None, refl, sym, ap, ◌∙◌}
use Rattle.std.specs.Prelude.{if◌then◌else◌, map, position}
use Rattle.std.specs.List.{flat_map}
use Rattle.fetch_config.specs.Contents.{Contents, with_sections, on_section, with_entry, without_key}
use Rattle.fetch_config.specs.declared.section.Section.{Section}
use Rattle.fetch_lookup.proofs.Edits.{on-end}
use Rattle.fetch_create.specs.Versioned as spec
use Rattle.fetch_create.proofs.Gone.{others}

-- what a section becomes where a key goes
abbrev pub cleared_at : List ℕ → List ℕ → Section → List Section
cleared_at name key s = spec.cleared_of name key s ∷ []

-- what a section becomes where the sections of a name go
abbrev pub gone_at : List ℕ → Section → List Section
gone_at name s = if spec.is_plain name s then [] else s ∷ []

each : {A B : Type 0} (f : A → B) (xs : List A) → flat_map (λ x. f x ∷ []) xs ≡ map f xs
each f [] = refl
each f (x ∷ xs) = ap (λ ys. f x ∷ ys) (each f xs)

pub all-cleared : (name key : List ℕ) (file : Contents) → with_sections file (flat_map (cleared_at name key) file.sections) ≡ spec.without_setting name key file
unfolding spec.without_setting
all-cleared name key file = ap (with_sections file) (each (spec.cleared_of name key) file.sections)

pub all-gone : (name : List ℕ) (file : Contents) → with_sections file (flat_map (gone_at name) file.sections) ≡ spec.without_sections name file
unfolding spec.without_sections
all-gone name file = ap (with_sections file) (others (spec.is_plain name) file.sections)

pub cleared : (name key : List ℕ) (s : Section) → spec.is_plain name s ≡ true → cleared_at name key s ≡ without_key key s ∷ []
cleared name key s e = rw e refl

pub kept : (name key : List ℕ) (s : Section) → spec.is_plain name s ≡ false → cleared_at name key s ≡ s ∷ []
kept name key s e = rw e refl

pub gone : (name : List ℕ) (s : Section) → spec.is_plain name s ≡ true → gone_at name s ≡ []
gone name s e = rw e refl

pub other : (name : List ℕ) (s : Section) → spec.is_plain name s ≡ false → gone_at name s ≡ s ∷ []
other name s e = rw e refl

-- an entry in a section that is there
pub set-there : (name key value : List ℕ) (file new : Contents) (index : ℕ) (o : Option ℕ) → o ≡ position (spec.is_plain name) file.sections → o ≡ Some index → new ≡ with_sections file (on_section index (with_entry (key, Some value)) file.sections)
    → new ≡ spec.with_setting name key value file
unfolding spec.with_setting
set-there name key value file new index o at is e = rw (sym at ∙ is) e

-- an entry in a new section
pub set-new : (name key value : List ℕ) (file new : Contents) (o : Option ℕ) → o ≡ position (spec.is_plain name) file.sections → o ≡ None → new ≡ with_sections file (spec.placed None (spec.empty_section file.meta name) (key, Some value) file.sections)
    → new ≡ spec.with_setting name key value file
unfolding spec.with_setting
set-new name key value file new o at is e = rw (sym at ∙ is) e

-- an entry in the section that was pushed
pub pushed : (name key value : List ℕ) (file between new : Contents) (index : ℕ) → between ≡ with_sections file (file.sections ++ spec.empty_section file.meta name ∷ []) → index ≡ length file.sections
    → new ≡ with_sections between (on_section index (with_entry (key, Some value)) between.sections)
    → new ≡ with_sections file (spec.placed None (spec.empty_section file.meta name) (key, Some value) file.sections)
pushed name key value file between new index is at e =
    e
    ∙ ap (λ o. with_sections o (on_section index (with_entry (key, Some value)) o.sections)) is
    ∙ ap (λ i. with_sections file (on_section i (with_entry (key, Some value)) (file.sections ++ spec.empty_section file.meta name ∷ []))) at
    ∙ ap (with_sections file) (on-end (with_entry (key, Some value)) file.sections (spec.empty_section file.meta name))
