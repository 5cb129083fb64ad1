-- What can be kept stays so under edits.
use Rattle.std.proofs.Common.{◌≡◌, ℕ, zero, suc, ◌+◌, ◌≤◌, Bool, true, false, cond, not, ◌&&◌, ltb, List, [], ◌∷◌, ◌++◌, length, take, drop, Option, Some, None, refl, ap, ◌∙◌, arith}
use Rattle.std.specs.Prelude.{position, remove}
use Rattle.std.specs.List.{list_all, filter, prefix_len, position_or_len}
use Rattle.std.specs.Option.{option_map, option_map_or}
use Rattle.std.proofs.lemmas.Bool.{and_parts, and_from, ltb-false}
use Rattle.fetch_config.specs.declared.section.Section.{Section}
use Rattle.fetch_config.specs.declared.meta.Meta.{Meta}
use Rattle.fetch_config.specs.Contents.{on_section, with_entry, without_key}
use Rattle.fetch_config.specs.Pieces.{is_same_name}
use Rattle.fetch_config.specs.Kept.{is_nul, is_nul_or_feed, is_kept_sub, is_kept_entry, is_kept, AreKept}

pub all-append : {A : Type 0} (p : A → Bool) (xs ys : List A) → list_all p xs ≡ true → list_all p ys ≡ true → list_all p (xs ++ ys) ≡ true
all-append p [] ys h k = k
all-append p (x ∷ xs) ys h k = let b = and_parts (p x) (list_all p xs) h in and_from (p x) (list_all p (xs ++ ys)) b.0 (all-append p xs ys b.1 k)

pub all-take : {A : Type 0} (p : A → Bool) (n : ℕ) (xs : List A) → list_all p xs ≡ true → list_all p (take n xs) ≡ true
all-take p zero xs h = refl
all-take p (suc n) [] h = refl
all-take p (suc n) (x ∷ xs) h = let b = and_parts (p x) (list_all p xs) h in and_from (p x) (list_all p (take n xs)) b.0 (all-take p n xs b.1)

pub all-drop : {A : Type 0} (p : A → Bool) (n : ℕ) (xs : List A) → list_all p xs ≡ true → list_all p (drop n xs) ≡ true
all-drop p zero xs h = h
all-drop p (suc n) [] h = refl
all-drop p (suc n) (x ∷ xs) h = all-drop p n xs (and_parts (p x) (list_all p xs) h).1

filter_by : {A : Type 0} (p : A → Bool) (t : Bool) (x : A) (ys : List A) → p x ≡ true → list_all p ys ≡ true → list_all p (cond t (x ∷ ys) ys) ≡ true
filter_by p true x ys here rest = and_from (p x) (list_all p ys) here rest
filter_by p false x ys here rest = rest

all-filter : {A : Type 0} (p q : A → Bool) (xs : List A) → list_all p xs ≡ true → list_all p (filter q xs) ≡ true
all-filter p q [] h = refl
all-filter p q (x ∷ xs) h = let b = and_parts (p x) (list_all p xs) h in filter_by p (q x) x (filter q xs) b.0 (all-filter p q xs b.1)

-- no place means no such byte
none_by : (p : ℕ → Bool) (c : ℕ) (cs : List ℕ) (t : Bool) → p c ≡ t → (length cs ≤ prefix_len (λ b. not (p b)) cs → list_all (λ b. not (p b)) cs ≡ true) → suc (length cs) ≤ cond (not t) (1 + prefix_len (λ b. not (p b)) cs) 0 → (not t && list_all (λ b. not (p b)) cs) ≡ true
none_by p c cs true is rest h = absurd (omega arith)
none_by p c cs false is rest h = rest (omega arith)

none_all : (p : ℕ → Bool) (text : List ℕ) → length text ≤ prefix_len (λ b. not (p b)) text → list_all (λ b. not (p b)) text ≡ true
none_all p [] h = refl
none_all p (c ∷ cs) h = none_by p c cs (p c) refl (none_all p cs) h

no_place : (n m : ℕ) (t : Bool) → ltb n m ≡ t → cond t (Some n) None ≡ None → m ≤ n
no_place n m true lt e = absurd cc
no_place n m false lt e = ltb-false n m lt

pub all-from_position : (p : ℕ → Bool) (text : List ℕ) → position p text ≡ None → list_all (λ b. not (p b)) text ≡ true
all-from_position p text e = none_all p text (no_place (position_or_len p text) (length text) (ltb (position_or_len p text) (length text)) refl e)

pub kept-remove : (xs : List Section) (i : ℕ) → AreKept xs → AreKept (remove xs i)
kept-remove xs i h = all-append is_kept (take i xs) (drop (suc i) xs) (all-take is_kept i xs h) (all-drop is_kept (suc i) xs h)

kept-on_section : (f : Section → Section) → ((s : Section) → is_kept s ≡ true → is_kept (f s) ≡ true) → (i : ℕ) (xs : List Section) → AreKept xs → AreKept (on_section i f xs)
kept-on_section f keeps i [] h = refl
kept-on_section f keeps zero (x ∷ xs) h = let b = and_parts (is_kept x) (list_all is_kept xs) h in and_from (is_kept (f x)) (list_all is_kept xs) (keeps x b.0) b.1
kept-on_section f keeps (suc i) (x ∷ xs) h = let b = and_parts (is_kept x) (list_all is_kept xs) h in and_from (is_kept x) (list_all is_kept (on_section i f xs)) b.0 (kept-on_section f keeps i xs b.1)

with_one : (e : List ℕ × Option (List ℕ)) → is_kept_entry e ≡ true → (s : Section) → is_kept s ≡ true → is_kept (with_entry e s) ≡ true
unfolding is_kept
with_one e here s h =
    let b = and_parts (is_kept_sub s.sub) (list_all is_kept_entry s.entries) h in
    and_from (is_kept_sub s.sub) (list_all is_kept_entry (s.entries ++ e ∷ [])) b.0 (all-append is_kept_entry s.entries (e ∷ []) b.1 (and_from (is_kept_entry e) true here refl))

without_one : (key : List ℕ) (s : Section) → is_kept s ≡ true → is_kept (without_key key s) ≡ true
unfolding is_kept
without_one key s h =
    let b = and_parts (is_kept_sub s.sub) (list_all is_kept_entry s.entries) h in
    and_from (is_kept_sub s.sub) (list_all is_kept_entry (filter (λ e. not (is_same_name e.0 key)) s.entries)) b.0 (all-filter is_kept_entry (λ e. not (is_same_name e.0 key)) s.entries b.1)

pub kept-with_entry : (key value : List ℕ) (i : ℕ) (xs : List Section) → position is_nul value ≡ None → AreKept xs → AreKept (on_section i (with_entry (key, Some value)) xs)
kept-with_entry key value i xs none h = kept-on_section (with_entry (key, Some value)) (with_one (key, Some value) (all-from_position is_nul value none)) i xs h

pub kept-without_key : (key : List ℕ) (i : ℕ) (xs : List Section) → AreKept xs → AreKept (on_section i (without_key key) xs)
kept-without_key key i xs h = kept-on_section (without_key key) (without_one key) i xs h

pub kept-push : (xs : List Section) (s : Section) → AreKept xs → is_kept s ≡ true → AreKept (xs ++ s ∷ [])
kept-push xs s h k = all-append is_kept xs (s ∷ []) h (and_from (is_kept s) true k refl)

checked : {A : Type 0} (now : A → List ℕ) (sub : Option A) → option_map_or (λ x. position is_nul_or_feed (now x)) sub None ≡ None → is_kept_sub (option_map now sub) ≡ true
checked now None none = refl
checked now (Some x) none = all-from_position is_nul_or_feed (now x) none

pub kept-new : {A : Type 0} (now : A → List ℕ) (sub : Option A) (name : List ℕ) (meta : Meta) (s : Section) → option_map_or (λ x. position is_nul_or_feed (now x)) sub None ≡ None
    → s ≡ record { name = name; sub = option_map now sub; meta = meta; entries = [] } → is_kept s ≡ true
unfolding is_kept
kept-new now sub name meta s none is =
    ap is_kept is ∙ and_from (is_kept_sub (option_map now sub)) true (checked now sub none) refl
