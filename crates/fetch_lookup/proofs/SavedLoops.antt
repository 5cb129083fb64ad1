-- Loops that clean, look for the last section, and push lines.
use Rattle.std.proofs.Common.{◌≡◌, ℕ, zero, suc, ◌+◌, ◌-◌, ◌<◌, ◌≤◌, Bool, true, false, ◌||◌, List, [], ◌∷◌, ◌++◌, length, get_or, take, drop, Option, Some, None, Result, Ok, Err, refl, sym, ap, ◌∙◌, arith, append_assoc, append-nil}
use Rattle.std.specs.Prelude.{map, if◌then◌else◌}
use Rattle.std.specs.List.{list_any, flat_map}
use Rattle.std.proofs.lemmas.List.{map-append}
use Rattle.fetch_config.specs.Contents.{Contents, with_sections, on_section}
use Rattle.fetch_config.specs.declared.section.Section.{Section}
use Rattle.fetch_config.specs.declared.meta.Meta.{Meta}
use Rattle.fetch_config.proofs.Flat.{drop_item}
use Rattle.fetch_lookup.specs.Edited.{edited_at}
use Rattle.fetch_lookup.specs.Saved as spec
use Rattle.fetch_lookup.specs.declared.save.Error.{Error}
use Rattle.fetch_base.specs.Answers.{AnswersBy}
use Rattle.std.specs.Prelude.{IfOk, codes}
use Rattle.fetch_lookup.specs.Names.{remote}
use Rattle.fetch_lookup.specs.declared.direction.Direction.TheVariants.{Push, Fetch}
use Rattle.fetch_lookup.specs.declared.remote.RemoteParts.{RemoteParts}
use Rattle.fetch_lookup.proofs.Edits.{edited-step, on-on, on-same, on-end, on_length}
use Rattle.fetch_lookup.proofs.SavedParts.{last-none, last-found}
use Rattle.fetch_lookup.proofs.Destinations.{first, first-some}

-- from the end to the front
module _ {A : Type 0} (f : A → List A) where
  start-by : (n : ℕ) (xs : List A) → n ≡ length xs → xs ≡ take n xs ++ flat_map f (drop n xs)
  start-by zero [] e = refl
  start-by (suc n) [] e = absurd (omega (arith, e))
  start-by zero (x ∷ xs) e = absurd (omega (arith, e))
  start-by (suc n) (x ∷ xs) e = ap (λ ys. x ∷ ys) (start-by n xs (omega (arith, e)))

  more-by : (n : ℕ) (xs : List A) → 0 < n → n ≤ length xs → edited_at (n - 1) f (take n xs ++ flat_map f (drop n xs)) ≡ take (n - 1) xs ++ flat_map f (drop (n - 1) xs)
  more-by zero xs lt le = absurd (omega (arith, lt))
  more-by (suc i) xs lt le =
      let e : suc i - 1 ≡ i = omega arith in
      ap (λ j. edited_at j f (take (suc i) xs ++ flat_map f (drop (suc i) xs))) e
      ∙ edited-step i f xs (omega (arith, le))
      ∙ ap (λ j. take j xs ++ flat_map f (drop j xs)) (sym e)

pub edited_room : {A : Type 0} (f : A → List A) (i : ℕ) (xs : List A) → i ≤ length xs → i ≤ length (edited_at i f xs)
edited_room f zero xs le = omega arith
edited_room f (suc i) [] le = absurd (omega (arith, le))
edited_room f (suc i) (x ∷ xs) le = omega (arith, edited_room f i xs (omega (arith, le)))

module _ (f : Section → List Section) (f0 old new : Contents) (n : ℕ) where
  pub edit-start : n ≡ length f0.sections → f0 ≡ with_sections f0 (take n f0.sections ++ flat_map f (drop n f0.sections))
  edit-start e = ap (with_sections f0) (start-by f n f0.sections e)

  pub edit-more : 0 < n → n ≤ length f0.sections → old ≡ with_sections f0 (take n f0.sections ++ flat_map f (drop n f0.sections)) → new ≡ with_sections old (edited_at (n - 1) f old.sections)
      → new ≡ with_sections f0 (take (n - 1) f0.sections ++ flat_map f (drop (n - 1) f0.sections))
  edit-more lt le so_far is = is ∙ ap (λ o. with_sections o (edited_at (n - 1) f o.sections)) so_far ∙ ap (with_sections f0) (more-by f n f0.sections lt le)

  pub edit-room : 0 < n → n ≤ length old.sections → new ≡ with_sections old (edited_at (n - 1) f old.sections) → n - 1 ≤ length new.sections
  edit-room lt le is = omega (arith, edited_room f (n - 1) old.sections (omega (arith, le)), ap (λ o. length o.sections) is)

  pub edit-end : n ≤ 0 → old ≡ with_sections f0 (take n f0.sections ++ flat_map f (drop n f0.sections)) → old ≡ with_sections f0 (flat_map f f0.sections)
  edit-end le so_far =
      let e : n ≡ 0 = omega (arith, le) in
      so_far ∙ ap (λ m. with_sections f0 (take m f0.sections ++ flat_map f (drop m f0.sections))) e

-- none from a place on
module _ {A : Type 0} (p : A → Bool) (xs : List A) where
  none-over : (n : ℕ) (ys : List A) → length ys ≤ n → list_any p (drop n ys) ≡ false
  none-over zero [] le = refl
  none-over (suc n) [] le = refl
  none-over zero (y ∷ ys) le = absurd (omega (arith, le))
  none-over (suc n) (y ∷ ys) le = none-over n ys (omega (arith, le))

  pub none-start : (n : ℕ) → n ≡ length xs → list_any p (drop n xs) ≡ false
  none-start n e = none-over n xs (omega (arith, e))

  at-front : (n : ℕ) (x : A) → 0 < n → n ≤ length xs → x ≡ get_or xs (n - 1) x → drop (n - 1) xs ≡ x ∷ drop n xs
  at-front n x lt le is =
      let e : n - 1 + 1 ≡ n = omega (arith, lt) in
      drop_item xs (n - 1) x (omega (arith, le, lt)) is ∙ ap (λ m. x ∷ drop m xs) e

  pub none-more : (n : ℕ) (x : A) → 0 < n → n ≤ length xs → x ≡ get_or xs (n - 1) x → p x ≡ false → list_any p (drop n xs) ≡ false → list_any p (drop (n - 1) xs) ≡ false
  none-more n x lt le is here none = ap (list_any p) (at-front n x lt le is) ∙ rw here none

  pub one-found : (n : ℕ) (x : A) → 0 < n → n ≤ length xs → x ≡ get_or xs (n - 1) x → p x ≡ true → list_any p (drop n xs) ≡ false → spec.last_place p xs ≡ Some (n - 1)
  one-found n x lt le is here none =
      let e : suc (n - 1) ≡ n = omega (arith, lt) in
      last-found p xs (n - 1) x (omega (arith, le, lt)) is here (ap (λ m. list_any p (drop m xs)) e ∙ none)

  pub none-found : (n : ℕ) → n ≤ 0 → list_any p (drop n xs) ≡ false → spec.last_place p xs ≡ None
  none-found n le none =
      let e : 0 ≡ n = omega (arith, le) in
      last-none p xs (ap (λ m. list_any p (drop m xs)) e ∙ none)

-- lines at the end of a section, one by one
no-lines : (s : Section) → spec.with_lines [] s ≡ s
no-lines s = ap (λ es. record s { entries = es }) (append-nil s.entries)

on-itself : (i : ℕ) (xs : List Section) → on_section i (λ s. s) xs ≡ xs
on-itself zero [] = refl
on-itself (suc i) [] = refl
on-itself zero (x ∷ xs) = refl
on-itself (suc i) (x ∷ xs) = ap (λ ys. x ∷ ys) (on-itself i xs)

one-line : (ls : List spec.KeyLine) (l : spec.KeyLine) (s : Section) → spec.with_lines (l ∷ []) (spec.with_lines ls s) ≡ spec.with_lines (ls ++ l ∷ []) s
one-line ls l s =
    ap (λ es. record s { entries = es })
    (append_assoc s.entries (map (λ l. (l.0, Some l.1)) ls) ((l.0, Some l.1) ∷ []) ∙ ap (λ es. s.entries ++ es) (sym (map-append (λ l. (l.0, Some l.1)) ls (l ∷ []))))

take-more : {A : Type 0} (i : ℕ) (xs : List A) (x : A) → i < length xs → x ≡ get_or xs i x → take (suc i) xs ≡ take i xs ++ x ∷ []
take-more i [] x lt is = absurd (omega (arith, lt))
take-more zero (y ∷ ys) x lt is = ap (λ z. z ∷ []) (sym is)
take-more (suc i) (y ∷ ys) x lt is = ap (λ zs. y ∷ zs) (take-more i ys x (omega (arith, lt)) is)

module _ (f0 old new : Contents) (index : ℕ) (lines : List spec.KeyLine) (i : ℕ) where
  pub line-start : f0 ≡ with_sections f0 (on_section index (spec.with_lines (take 0 lines)) f0.sections)
  line-start = ap (with_sections f0) (sym (on-same index _ (λ s. s) no-lines f0.sections ∙ on-itself index f0.sections))

  pub line-more : (l : spec.KeyLine) → i < length lines → l ≡ get_or lines i l → old ≡ with_sections f0 (on_section index (spec.with_lines (take i lines)) f0.sections) → new ≡ with_sections old (on_section index (spec.with_lines (l ∷ [])) old.sections)
      → new ≡ with_sections f0 (on_section index (spec.with_lines (take (i + 1) lines)) f0.sections)
  line-more l lt at so_far is =
      let e : suc i ≡ i + 1 = omega arith in
      is ∙ ap (λ o. with_sections o (on_section index (spec.with_lines (l ∷ [])) o.sections)) so_far
      ∙ ap (with_sections f0)
      (on-on index (spec.with_lines (l ∷ [])) (spec.with_lines (take i lines)) f0.sections
      ∙ on-same index _ _ (one-line (take i lines) l) f0.sections
      ∙ ap (λ ls. on_section index (spec.with_lines ls) f0.sections) (sym (take-more i lines l lt at) ∙ ap (λ m. take m lines) e))

take-over : {A : Type 0} (n : ℕ) (xs : List A) → length xs ≤ n → take n xs ≡ xs
take-over zero [] le = refl
take-over (suc n) [] le = refl
take-over zero (x ∷ xs) le = absurd (omega (arith, le))
take-over (suc n) (x ∷ xs) le = ap (λ ys. x ∷ ys) (take-over n xs (omega (arith, le)))

pub line-end : (f0 old : Contents) (index : ℕ) (lines : List spec.KeyLine) (i : ℕ) → length lines ≤ i → old ≡ with_sections f0 (on_section index (spec.with_lines (take i lines)) f0.sections)
    → old ≡ with_sections f0 (on_section index (spec.with_lines lines) f0.sections)
line-end f0 old index lines i le so_far = so_far ∙ ap (λ ls. with_sections f0 (on_section index (spec.with_lines ls) f0.sections)) (take-over i lines le)

-- what a place that is refused says
pub kept-place : (o : Option ℕ) → spec.at_place o ≡ Ok tt → o ≡ None
kept-place None e = refl
kept-place (Some place) e = cc

pub refused-line : (lines : List spec.KeyLine) (i : ℕ) (l : spec.KeyLine) (e : Error) → i < length lines → l ≡ get_or lines i l → first spec.nul_at (drop i lines) ≡ first spec.nul_at lines → (o : Option ℕ) → spec.nul_at l ≡ o → spec.at_place o ≡ Err e
    → spec.at_place (first spec.nul_at lines) ≡ Err e
refused-line lines i l e lt at so_far None is refused = cc
refused-line lines i l e lt at so_far (Some place) is refused = ap spec.at_place (sym (first-some spec.nul_at lines i l place (first spec.nul_at lines) lt at is so_far)) ∙ refused

-- the section that is used
pub used-there : (file : Contents) (name : List ℕ) (index : ℕ) (b : Bool) (o : Option ℕ) → b ≡ false → o ≡ Some index → spec.IsUsedAt file name (if b then None else o) index file
used-there file name index b o e f lines = rw (e, f) refl

pub used-new : (file new : Contents) (name : List ℕ) (index : ℕ) (u : Option ℕ) → u ≡ None → index ≡ length file.sections → new ≡ with_sections file (file.sections ++ spec.new_section file.meta name ∷ []) → spec.IsUsedAt file name u index new
used-new file new name index u e at is lines =
    rw (e, at, is) (ap (with_sections file) (on-end (spec.with_lines lines) file.sections (spec.new_section file.meta name)))

pub line-room : (old new : Contents) (index : ℕ) (ls : List spec.KeyLine) → index < length old.sections → new ≡ with_sections old (on_section index (spec.with_lines ls) old.sections) → index < length new.sections
line-room old new index ls lt is = omega (arith, lt, ap (λ o. length o.sections) is, on_length index (spec.with_lines ls) old.sections)

-- what is saved in the end
pub saved-by : (config : Contents) (name : List ℕ) (parts : RemoteParts) (cu cp n : Bool) (file : Contents) (lines : List spec.KeyLine) (r : Result Contents Error)
    → cu ≡ spec.clears config name Fetch → cp ≡ spec.clears config name Push → n ≡ (cu || cp) → file ≡ with_sections config (spec.cleaned name config.sections) → lines ≡ spec.lines_of cu cp parts
    → IfOk r (λ new. new ≡ with_sections file (spec.placed_in (spec.used_or_new n file.meta name file.sections) (spec.new_section file.meta name) lines file.sections)) → IfOk r (λ new. new ≡ spec.saved config name parts)
unfolding spec.saved
saved-by config name parts cu cp n file lines (Ok new) a b d e f is = is ∙ rw (e, f, d, a, b) refl
saved-by config name parts cu cp n file lines (Err x) a b d e f is = tt

pub same-place : {X : Type 0} (v : X → Unit {0}) (a b : Option ℕ) (r : Result X Error) → b ≡ a → AnswersBy v spec.is_memory (spec.at_place a) r → AnswersBy v spec.is_memory (spec.at_place b) r
same-place v a b r e h = rw e h

pub spec-line : (out new : List spec.KeyLine) (k t key text : List ℕ) → new ≡ out ++ (k, t) ∷ [] → k ≡ key → t ≡ text → new ≡ out ++ (key, text) ∷ []
spec-line out new k t key text e f g = e ∙ ap (λ x. out ++ (x, t) ∷ []) f ∙ ap (λ y. out ++ (key, y) ∷ []) g

pub new-there : (file new : Contents) (name : List ℕ) (index : ℕ) (meta : Meta) → meta ≡ file.meta → new ≡ with_sections file (file.sections ++ record { name = codes "remote"; sub = Some name; meta = meta; entries = [] } ∷ []) → index ≡ length file.sections
    → spec.IsUsedAt file name None index new
unfolding remote
new-there file new name index meta m is at = used-new file new name index None refl at (is ∙ ap (λ m. with_sections file (file.sections ++ record { name = codes "remote"; sub = Some name; meta = m; entries = [] } ∷ [])) m)
