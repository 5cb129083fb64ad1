-- A section with two entries, pushed part by part.
use Rattle.std.proofs.Common.{◌≡◌, ◌<◌, ℕ, List, [], ◌∷◌, ◌++◌, length, Option, ap, ◌∙◌, arith, length-append}
use Rattle.fetch_config.specs.Contents.{Contents, on_section, with_entry, with_sections}
use Rattle.fetch_config.specs.declared.section.Section.{Section}
use Rattle.fetch_lookup.proofs.Edits.{on-end}

abbrev Entry : Type 0
Entry = List ℕ × Option (List ℕ)

-- an entry of the last section
pub entered : (f0 f1 f2 : Contents) (i : ℕ) (s : Section) (a : Entry) → f1 ≡ with_sections f0 (f0.sections ++ s ∷ []) → i ≡ length f0.sections → f2 ≡ with_sections f1 (on_section i (with_entry a) f1.sections) → f2 ≡ with_sections f0 (f0.sections ++ with_entry a s ∷ [])
entered f0 f1 f2 i s a p e q =
    q ∙ ap (λ (f : Contents). with_sections f (on_section i (with_entry a) f.sections)) p
    ∙ ap (λ (j : ℕ). with_sections f0 (on_section j (with_entry a) (f0.sections ++ s ∷ []))) e
    ∙ ap (with_sections f0) (on-end (with_entry a) f0.sections s)

-- there is such a section still
pub room : (f0 f1 f2 : Contents) (i : ℕ) (s : Section) (a : Entry) → f1 ≡ with_sections f0 (f0.sections ++ s ∷ []) → i ≡ length f0.sections → f2 ≡ with_sections f1 (on_section i (with_entry a) f1.sections) → i < length f2.sections
room f0 f1 f2 i s a p e q =
    let n = ap (λ (f : Contents). length f.sections) (entered f0 f1 f2 i s a p e q) in
    omega (arith, n, e, length-append f0.sections (with_entry a s ∷ []))
