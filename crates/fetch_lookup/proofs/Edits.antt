-- Edits at one place of a list, and at each place in turn.
use Rattle.std.proofs.Common.{◌≡◌, ℕ, zero, suc, ◌+◌, ◌<◌, Bool, true, false, not, ◌||◌, List, [], ◌∷◌, ◌++◌, length, get_or, take, drop, refl, sym, ap, ◌∙◌, ◌≤◌, arith, append_assoc, append-nil}
use Rattle.std.specs.Prelude.{remove, filter, map}
use Rattle.std.specs.List.{flat_map}
use Rattle.fetch_config.specs.declared.section.Section.{Section}
use Rattle.std.proofs.lemmas.List.{at_drop_all}
use Rattle.fetch_config.proofs.Flat.{drop_item}
use Rattle.fetch_config.specs.Contents.{Contents, with_sections, on_section}
use Rattle.fetch_lookup.specs.Edited.{edited_at}

-- Two edits that give the same of the element are one.
pub edited-as : {A : Type 0} (i : ℕ) (f g : A → List A) (xs : List A) (x : A) → i < length xs → x ≡ get_or xs i x → f x ≡ g x → edited_at i f xs ≡ edited_at i g xs
edited-as i f g [] x lt is e = absurd (omega arith)
edited-as zero f g (y ∷ ys) x lt is e = ap (λ z. z ++ ys) (ap f (sym is) ∙ e ∙ ap g is)
edited-as (suc i) f g (y ∷ ys) x lt is e = ap (λ zs. y ∷ zs) (edited-as i f g ys x (omega (arith, lt)) is e)

pub edited-same : {A : Type 0} (i : ℕ) (xs : List A) → edited_at i (λ x. x ∷ []) xs ≡ xs
edited-same zero [] = refl
edited-same (suc i) [] = refl
edited-same zero (x ∷ xs) = refl
edited-same (suc i) (x ∷ xs) = ap (λ ys. x ∷ ys) (edited-same i xs)

pub edited-on : (i : ℕ) (g : Section → Section) (xs : List Section) → edited_at i (λ x. g x ∷ []) xs ≡ on_section i g xs
edited-on zero g [] = refl
edited-on (suc i) g [] = refl
edited-on zero g (x ∷ xs) = refl
edited-on (suc i) g (x ∷ xs) = ap (λ ys. x ∷ ys) (edited-on i g xs)

pub edited-removed : {A : Type 0} (i : ℕ) (xs : List A) → edited_at i (λ x. []) xs ≡ remove xs i
edited-removed zero [] = refl
edited-removed (suc i) [] = refl
edited-removed zero (x ∷ xs) = refl
edited-removed (suc i) (x ∷ xs) = ap (λ ys. x ∷ ys) (edited-removed i xs)

-- What is edited after a place, and then at the place, is edited from the place on.
pub edited-step : {A : Type 0} (i : ℕ) (f : A → List A) (xs : List A) → i < length xs → edited_at i f (take (suc i) xs ++ flat_map f (drop (suc i) xs)) ≡ take i xs ++ flat_map f (drop i xs)
edited-step i f [] lt = absurd (omega arith)
edited-step zero f (x ∷ xs) lt = refl
edited-step (suc i) f (x ∷ xs) lt = ap (λ ys. x ∷ ys) (edited-step i f xs (omega (arith, lt)))

pub on-on : (i : ℕ) (f g : Section → Section) (xs : List Section) → on_section i f (on_section i g xs) ≡ on_section i (λ s. f (g s)) xs
on-on zero f g [] = refl
on-on (suc i) f g [] = refl
on-on zero f g (x ∷ xs) = refl
on-on (suc i) f g (x ∷ xs) = ap (λ ys. x ∷ ys) (on-on i f g xs)

pub on-same : (i : ℕ) (f g : Section → Section) → ((s : Section) → f s ≡ g s) → (xs : List Section) → on_section i f xs ≡ on_section i g xs
on-same zero f g e [] = refl
on-same (suc i) f g e [] = refl
on-same zero f g e (x ∷ xs) = ap (λ y. y ∷ xs) (e x)
on-same (suc i) f g e (x ∷ xs) = ap (λ ys. x ∷ ys) (on-same i f g e xs)

pub on_length : (i : ℕ) (f : Section → Section) (xs : List Section) → length (on_section i f xs) ≡ length xs
on_length zero f [] = refl
on_length (suc i) f [] = refl
on_length zero f (x ∷ xs) = refl
on_length (suc i) f (x ∷ xs) = ap suc (on_length i f xs)

-- an edit of the section after the last
pub on-end : (f : Section → Section) (xs : List Section) (s : Section) → on_section (length xs) f (xs ++ s ∷ []) ≡ xs ++ f s ∷ []
on-end f [] s = refl
on-end f (x ∷ xs) s = ap (λ ys. x ∷ ys) (on-end f xs s)

two-by : {A : Type 0} (p q : A → Bool) (x : A) (xs : List A) (b c : Bool) → p x ≡ b → q x ≡ c → filter (λ y. not (q y)) (filter (λ y. not (p y)) xs) ≡ filter (λ y. not (p y || q y)) xs → filter (λ y. not (q y)) (filter (λ y. not (p y)) (x ∷ xs)) ≡ filter (λ y. not (p y || q y)) (x ∷ xs)
two-by p q x xs true c e d rest = rw e rest
two-by p q x xs false true e d rest = rw (e, d) rest
two-by p q x xs false false e d rest = rw (e, d) (ap (λ ys. x ∷ ys) rest)

-- Two filters, one after the other, are one.
pub two : {A : Type 0} (p q : A → Bool) (xs : List A) → filter (λ y. not (q y)) (filter (λ y. not (p y)) xs) ≡ filter (λ y. not (p y || q y)) xs
two p q [] = refl
two p q (x ∷ xs) = two-by p q x xs (p x) (q x) refl refl (two p q xs)

-- values pushed: what is pushed, and the rest, are the whole
pub push-step : {A B : Type 0} (f : A → B) (xs : List A) (i : ℕ) (x : A) (out new whole : List B) → i < length xs → x ≡ get_or xs i x → new ≡ out ++ f x ∷ [] → out ++ map f (drop i xs) ≡ whole → new ++ map f (drop (i + 1) xs) ≡ whole
push-step f xs i x out new whole lt is more so_far =
    ap (λ o. o ++ map f (drop (i + 1) xs)) more ∙ append_assoc out (f x ∷ []) (map f (drop (i + 1) xs)) ∙ ap (λ ys. out ++ map f ys) (sym (drop_item xs i x lt is)) ∙ so_far

pub push-end : {A B : Type 0} (f : A → B) (xs : List A) (i : ℕ) (out whole : List B) → length xs ≤ i → out ++ map f (drop i xs) ≡ whole → out ≡ whole
push-end f xs i out whole over so_far = sym (append-nil out) ∙ sym (at_drop_all (λ ys. out ++ map f ys) xs i over) ∙ so_far

-- a section that stays, one that goes, and one that changes
module _ (file : Contents) (i : ℕ) (f : Section → List Section) (sections : List Section) (s : Section) (same : sections ≡ file.sections) (lt : i < length file.sections) (is : s ≡ get_or sections i s) where
  at-once : (g : Section → List Section) → f s ≡ g s → edited_at i f file.sections ≡ edited_at i g file.sections
  at-once g e = edited-as i f g file.sections s lt (is ∙ ap (λ xs. get_or xs i s) same) e

  pub stays : f s ≡ s ∷ [] → file ≡ with_sections file (edited_at i f file.sections)
  stays e = ap (with_sections file) (sym (at-once (λ s. s ∷ []) e ∙ edited-same i file.sections))

  pub goes : (new : Contents) → f s ≡ [] → new ≡ with_sections file (remove file.sections i) → new ≡ with_sections file (edited_at i f file.sections)
  goes new e removed = removed ∙ ap (with_sections file) (sym (at-once (λ s. []) e ∙ edited-removed i file.sections))

  pub changes : (new : Contents) (g : Section → Section) → f s ≡ g s ∷ [] → new ≡ with_sections file (on_section i g file.sections) → new ≡ with_sections file (edited_at i f file.sections)
  changes new g e changed = changed ∙ ap (with_sections file) (sym (at-once (λ s. g s ∷ []) e ∙ edited-on i g file.sections))
