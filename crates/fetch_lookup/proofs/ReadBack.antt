-- A remote that was saved reads back.
use Rattle.std.proofs.Common.{◌≡◌, ℕ, zero, suc, ◌-◌, ◌<◌, ◌≤◌, Bool, true, false, not, ◌&&◌, ◌||◌, List, [], ◌∷◌, ◌++◌, length, get_or, drop, Option, Some, None, Ok, refl, sym, ap, ◌∙◌, arith, append-nil}
use Rattle.std.specs.Prelude.{◌==◌, filter, map, if◌then◌else◌}
use Rattle.std.specs.List.{list_all, flat_map, suffix_len}
use Rattle.std.proofs.lemmas.Grind.{flat_map-append}
use Rattle.std.proofs.lemmas.List.{map-append}
use Rattle.std.proofs.lemmas.List.Folds.{list_any-append}
use Rattle.std.proofs.lemmas.List.Sums.{suffix_len_is}
use Rattle.fetch_specs.proofs.Between.{same_text}
use Rattle.fetch_specs.specs.Parses.{parsed, printed}
use Rattle.fetch_specs.specs.Specs.{Spec}
use Rattle.fetch_specs.specs.declared.tags.Tags.{Tags}
use Rattle.fetch_specs.specs.declared.tags.Tags.TheVariants as choices
use Rattle.fetch_config.specs.Contents.{Contents, on_section}
use Rattle.fetch_config.specs.Lookups.{values_at, values_in, values_of, explicit, is_meant, last_or}
use Rattle.fetch_config.specs.Pieces.{is_same_name}
use Rattle.fetch_config.specs.declared.meta.Meta.{Meta}
use Rattle.fetch_config.specs.declared.section.Section.{Section}
use Rattle.fetch_lookup.specs.declared.direction.Direction.{Direction}
use Rattle.fetch_lookup.specs.declared.direction.Direction.TheVariants.{Push, Fetch}
use Rattle.fetch_lookup.specs.declared.remote.RemoteParts.{RemoteParts}
use Rattle.fetch_lookup.specs.Names.{remote}
use Rattle.fetch_lookup.specs.Ordered.{ascending}
use Rattle.fetch_lookup.specs.ReadBack.{AreSpecs, IsReadable, ReadsBack}
use Rattle.fetch_lookup.specs.Remotes as remotes
use Rattle.fetch_lookup.specs.Remotes.{spec_key}
use Rattle.fetch_lookup.specs.Results.{all_of}
use Rattle.fetch_lookup.specs.SpecOrder.{spec_cmp}
use Rattle.fetch_lookup.specs.Saved as spec
use Rattle.fetch_lookup.proofs.Founds.{all-parts}

abbrev Entry : Type 0
Entry = List ℕ × Option (List ℕ)

-- a key that saving writes
abbrev pub IsSavedKey : List ℕ → Type 0
IsSavedKey k = (key : List ℕ) → is_same_name key k ≡ true → spec.is_saved_key key ≡ true

gone-by : (k : List ℕ) (e : Entry) (es : List Entry) (a b : Bool) → spec.is_saved_key e.0 ≡ a → is_same_name e.0 k ≡ b → (b ≡ true → a ≡ true) → flat_map (values_at k) (filter (λ e. not (spec.is_saved_key e.0)) es) ≡ []
    → flat_map (values_at k) (filter (λ e. not (spec.is_saved_key e.0)) (e ∷ es)) ≡ []
gone-by k e es true b p q covers rest = rw p rest
gone-by k e es false true p q covers rest = absurd (cc (covers refl))
gone-by k e es false false p q covers rest = rw (p, q) rest

gone : (k : List ℕ) → IsSavedKey k → (es : List Entry) → flat_map (values_at k) (filter (λ e. not (spec.is_saved_key e.0)) es) ≡ []
gone k covers [] = refl
gone k covers (e ∷ es) = gone-by k e es (spec.is_saved_key e.0) (is_same_name e.0 k) refl refl (covers e.0) (gone k covers es)

or-right : (a b : Bool) → b ≡ true → (a || b) ≡ true
or-right true b e = refl
or-right false b e = e

or-left : (a b : Bool) → a ≡ true → (a || b) ≡ true
or-left true b e = refl
or-left false b e = cc

saved-url : IsSavedKey (spec.address_key Fetch)
saved-url key e = or-left _ _ (or-left _ _ (or-left _ _ (or-left _ _ e)))

saved-pushurl : IsSavedKey (spec.address_key Push)
saved-pushurl key e = or-left _ _ (or-left _ _ (or-left _ _ (or-right (is_same_name key (spec.address_key Fetch)) _ e)))

saved-tag : IsSavedKey spec.tag_key
saved-tag key e = or-left _ _ (or-left _ _ (or-right (is_same_name key (spec.address_key Fetch) || is_same_name key (spec.address_key Push)) _ e))

saved-fetch : IsSavedKey (spec_key Fetch)
saved-fetch key e = or-left _ _ (or-right (is_same_name key (spec.address_key Fetch) || is_same_name key (spec.address_key Push) || is_same_name key spec.tag_key) _ e)

saved-push : IsSavedKey (spec_key Push)
saved-push key e = or-right (is_same_name key (spec.address_key Fetch) || is_same_name key (spec.address_key Push) || is_same_name key spec.tag_key || is_same_name key (spec_key Fetch)) _ e

if-same : {A : Type 0} (b : Bool) (x y : A) → x ≡ y → (if b then x else y) ≡ y
if-same true x y e = e
if-same false x y e = refl

no-front : {A : Type 0} (xs ys : List A) → xs ++ ys ≡ [] → xs ≡ []
no-front [] ys e = refl
no-front (x ∷ xs) ys e = cc

no-back : {A : Type 0} (xs ys : List A) → xs ++ ys ≡ [] → ys ≡ []
no-back [] ys e = e
no-back (x ∷ xs) ys e = cc

empty-both : {A : Type 0} (xs ys : List A) → xs ≡ [] → ys ≡ [] → xs ++ ys ≡ []
empty-both xs ys e f = rw (e, f) refl

-- what a key is given in the sections that are looked at
module _ (k name : List ℕ) where
  abbrev pub here : Section → List (Option (List ℕ))
  here s = values_in remote (Some name) k true s

  abbrev pub all : List Section → List (Option (List ℕ))
  all sections = flat_map here sections

  module _ (covers : IsSavedKey k) where
    section-gone : (s : Section) (a b : Bool) → spec.is_of_remote name s ≡ a → spec.is_emptied s ≡ b → all (if not a then s ∷ [] else if b then [] else spec.cleaned_section s ∷ []) ≡ []
    unfolding spec.cleaned_section
    section-gone s false b p q = rw p refl
    section-gone s true true p q = refl
    section-gone s true false p q = ap (λ xs. xs ++ []) (if-same (is_meant remote (Some name) true s) _ [] (gone k covers s.entries))

    pub cleaned-none : (sections : List Section) → all (spec.cleaned name sections) ≡ []
    unfolding spec.cleaned_at
    cleaned-none [] = refl
    cleaned-none (s ∷ ss) =
        flat_map-append here (spec.cleaned_at name s) (spec.cleaned name ss)
        ∙ empty-both (all (spec.cleaned_at name s)) (all (spec.cleaned name ss)) (section-gone s (spec.is_of_remote name s) (spec.is_emptied s) refl refl) (cleaned-none ss)

  abbrev pub told : List spec.KeyLine → List (Option (List ℕ))
  told lines = flat_map (values_at k) (map (λ l. (l.0, Some l.1)) lines)

  -- the lines in a section that is looked at, which had none
  lined : (lines : List spec.KeyLine) (s : Section) → is_meant remote (Some name) true s ≡ true → here s ≡ [] → here (spec.with_lines lines s) ≡ told lines
  lined lines s meant none =
      let e : flat_map (values_at k) s.entries ≡ [] = rw meant at none in
      rw meant (flat_map-append (values_at k) s.entries (map (λ l. (l.0, Some l.1)) lines) ∙ ap (λ xs. xs ++ told lines) e)

  used-by : (p : Section → Bool) → ((s : Section) → p s ≡ true → is_meant remote (Some name) true s ≡ true) → (lines : List spec.KeyLine) (s : Section) (ss : List Section) (o : Option ℕ) (b : Bool) (i : ℕ)
      → spec.last_place p ss ≡ o → p s ≡ b → spec.further o b ≡ Some i → all (s ∷ ss) ≡ []
      → ((j : ℕ) → spec.last_place p ss ≡ Some j → all (on_section j (spec.with_lines lines) ss) ≡ told lines)
      → all (on_section i (spec.with_lines lines) (s ∷ ss)) ≡ told lines
  used-by p means lines s ss (Some j) b i l q is none rest =
      let e : i ≡ suc j = cc in
      rw e (ap (λ xs. xs ++ all (on_section j (spec.with_lines lines) ss)) (no-front (here s) (all ss) none) ∙ rest j l)
  used-by p means lines s ss None true i l q is none rest =
      let e : i ≡ 0 = cc in
      rw e (ap (λ xs. here (spec.with_lines lines s) ++ xs) (no-back (here s) (all ss) none) ∙ append-nil (here (spec.with_lines lines s)) ∙ lined lines s (means s q) (no-front (here s) (all ss) none))
  used-by p means lines s ss None false i l q is none rest = absurd (cc is)

  pub used : (p : Section → Bool) → ((s : Section) → p s ≡ true → is_meant remote (Some name) true s ≡ true) → (lines : List spec.KeyLine) (ss : List Section) (i : ℕ) → spec.last_place p ss ≡ Some i → all ss ≡ []
      → all (on_section i (spec.with_lines lines) ss) ≡ told lines
  unfolding spec.last_place
  used p means lines [] i is none = absurd (cc is)
  used p means lines (s ∷ ss) i is none = used-by p means lines s ss (spec.last_place p ss) (p s) i refl refl is none (λ j l. used p means lines ss j l (no-back (here s) (all ss) none))

  told-append : (a b : List spec.KeyLine) → told (a ++ b) ≡ told a ++ told b
  told-append a b = ap (flat_map (values_at k)) (map-append (λ l. (l.0, Some l.1)) a b) ∙ flat_map-append (values_at k) (map (λ l. (l.0, Some l.1)) a) (map (λ l. (l.0, Some l.1)) b)

  told-five : (a b t f p : List spec.KeyLine) → told (a ++ (b ++ (t ++ (f ++ p)))) ≡ told a ++ (told b ++ (told t ++ (told f ++ told p)))
  told-five a b t f p =
      told-append a (b ++ (t ++ (f ++ p))) ∙ ap (λ xs. told a ++ xs)
      (told-append b (t ++ (f ++ p)) ∙ ap (λ xs. told b ++ xs)
      (told-append t (f ++ p) ∙ ap (λ xs. told t ++ xs) (told-append f p)))

  same-key : {A : Type 0} (key : List ℕ) (f : A → List ℕ) (xs : List A) → is_same_name key k ≡ true → told (map (λ x. (key, f x)) xs) ≡ map (λ x. Some (f x)) xs
  same-key key f [] e = refl
  same-key key f (x ∷ xs) e = rw e (ap (λ ys. Some (f x) ∷ ys) (same-key key f xs e))

  other-key : {A : Type 0} (key : List ℕ) (f : A → List ℕ) (xs : List A) → is_same_name key k ≡ false → told (map (λ x. (key, f x)) xs) ≡ []
  other-key key f [] e = refl
  other-key key f (x ∷ xs) e = rw e (other-key key f xs e)

and-both : (a b : Bool) → (a && b) ≡ true → (a ≡ true) × (b ≡ true)
and-both true b e = (refl, e)
and-both false b e = cc

trusted-as : (a b : Bool) → b ≡ true → (if a then b else not b) ≡ true → a ≡ true
trusted-as true b e f = refl
trusted-as false b e f = absurd (cc (ap not e ∙ refl))

own-is-meant : (meta : Meta) (name : List ℕ) → meta.trusted ≡ true → (s : Section) → spec.is_own meta name s ≡ true → is_meant remote (Some name) true s ≡ true
own-is-meant meta name trusted s own =
    let h = and-both (spec.is_of_remote name s) (spec.is_same_meta s.meta meta) own in
    let t = trusted-as s.meta.trusted meta.trusted trusted (and-both _ _ h.1).1 in
    rw (h.0, t) refl

new-is-meant : (meta : Meta) (name : List ℕ) → meta.trusted ≡ true → is_meant remote (Some name) true (spec.new_section meta name) ≡ true
unfolding remote
new-is-meant meta name trusted = rw (same_text name, trusted) refl

module _ (meta : Meta) (name : List ℕ) (trusted : meta.trusted ≡ true) (lines : List spec.KeyLine) where
  placed-all : (k : List ℕ) (ss : List Section) → all k name ss ≡ [] → (b : Bool) (o : Option ℕ) → spec.last_place (spec.is_own meta name) ss ≡ o
      → all k name (spec.placed_in (if b then None else o) (spec.new_section meta name) lines ss) ≡ told k name lines
  placed-all k ss none false (Some i) l = used k name (spec.is_own meta name) (own-is-meant meta name trusted) lines ss i l none
  placed-all k ss none true o l =
      flat_map-append (here k name) ss (spec.with_lines lines (spec.new_section meta name) ∷ []) ∙ ap (λ xs. xs ++ all k name (spec.with_lines lines (spec.new_section meta name) ∷ [])) none
      ∙ append-nil (here k name (spec.with_lines lines (spec.new_section meta name))) ∙ lined k name lines (spec.new_section meta name) (new-is-meant meta name trusted) (if-same (is_meant remote (Some name) true (spec.new_section meta name)) [] [] refl)
  placed-all k ss none false None l =
      flat_map-append (here k name) ss (spec.with_lines lines (spec.new_section meta name) ∷ []) ∙ ap (λ xs. xs ++ all k name (spec.with_lines lines (spec.new_section meta name) ∷ [])) none
      ∙ append-nil (here k name (spec.with_lines lines (spec.new_section meta name))) ∙ lined k name lines (spec.new_section meta name) (new-is-meant meta name trusted) (if-same (is_meant remote (Some name) true (spec.new_section meta name)) [] [] refl)

  found-by : (s : Section) (ss : List Section) (o : Option ℕ) (b : Bool) (i : ℕ) → spec.last_place (spec.is_own meta name) ss ≡ o → spec.is_own meta name s ≡ b → spec.further o b ≡ Some i
      → ((j : ℕ) → spec.last_place (spec.is_own meta name) ss ≡ Some j → remotes.is_remote (on_section j (spec.with_lines lines) ss) name ≡ true) → remotes.is_remote (on_section i (spec.with_lines lines) (s ∷ ss)) name ≡ true
  found-by s ss (Some j) b i l q is rest =
      let e : i ≡ suc j = cc in
      rw e (or-right (is_meant remote (Some name) true s) _ (rest j l))
  found-by s ss None true i l q is rest =
      let e : i ≡ 0 = cc in
      rw e (or-left (is_meant remote (Some name) true s) _ (own-is-meant meta name trusted s q))
  found-by s ss None false i l q is rest = absurd (cc is)

  found-used : (ss : List Section) (i : ℕ) → spec.last_place (spec.is_own meta name) ss ≡ Some i → remotes.is_remote (on_section i (spec.with_lines lines) ss) name ≡ true
  unfolding spec.last_place
  found-used [] i is = absurd (cc is)
  found-used (s ∷ ss) i is = found-by s ss (spec.last_place (spec.is_own meta name) ss) (spec.is_own meta name s) i refl refl is (λ j l. found-used ss j l)

  found-new : (ss : List Section) → remotes.is_remote (ss ++ spec.with_lines lines (spec.new_section meta name) ∷ []) name ≡ true
  found-new ss =
      list_any-append (is_meant remote (Some name) true) ss (spec.with_lines lines (spec.new_section meta name) ∷ [])
      ∙ or-right (remotes.is_remote ss name) _ (or-left (is_meant remote (Some name) true (spec.new_section meta name)) false (new-is-meant meta name trusted))

  placed-found : (ss : List Section) (b : Bool) (o : Option ℕ) → spec.last_place (spec.is_own meta name) ss ≡ o → remotes.is_remote (spec.placed_in (if b then None else o) (spec.new_section meta name) lines ss) name ≡ true
  placed-found ss false (Some i) l = found-used ss i l
  placed-found ss true o l = found-new ss
  placed-found ss false None l = found-new ss

explicit-some : {A : Type 0} (f : A → List ℕ) (xs : List A) → explicit (map (λ x. Some (f x)) xs) ≡ map f xs
unfolding explicit
explicit-some f [] = refl
explicit-some f (x ∷ xs) = ap (λ ys. f x ∷ ys) (explicit-some f xs)

map-id : {A : Type 0} (xs : List A) → map (λ x. x) xs ≡ xs
map-id [] = refl
map-id (x ∷ xs) = ap (λ ys. x ∷ ys) (map-id xs)

module _ (c d : Bool) (name : List ℕ) (parts : RemoteParts) where
  abbrev five : List ℕ → List (Option (List ℕ))
  five k = told k name (spec.lines_of c d parts)

  split : (k : List ℕ) → five k ≡ told k name (spec.address_lines c Fetch parts.urls) ++ (told k name (spec.address_lines d Push parts.push_urls) ++ (told k name (spec.tag_lines parts.fetch_tags) ++ (told k name (spec.spec_lines Fetch parts.fetch_specs) ++ told k name (spec.spec_lines Push parts.push_specs))))
  unfolding spec.lines_of
  split k = told-five k name (spec.address_lines c Fetch parts.urls) (spec.address_lines d Push parts.push_urls) (spec.tag_lines parts.fetch_tags) (spec.spec_lines Fetch parts.fetch_specs) (spec.spec_lines Push parts.push_specs)

  untagged : (k : List ℕ) → is_same_name spec.tag_key k ≡ false → (tags : Tags) → told k name (spec.tag_lines tags) ≡ []
  unfolding spec.tag_lines
  untagged k e choices.All = rw e refl
  untagged k e choices.Included = refl
  untagged k e choices.None = rw e refl

  pub told-urls : explicit (five (spec.address_key Fetch)) ≡ (if c then [] ∷ parts.urls else parts.urls)
  unfolding spec.address_key spec.tag_key spec_key
  told-urls =
      let k = spec.address_key Fetch in
      let us = if c then [] ∷ parts.urls else parts.urls in
      ap explicit (split k ∙ rw (other-key k name (spec.address_key Push) (λ x. x) (if d then [] ∷ parts.push_urls else parts.push_urls) refl, untagged k refl parts.fetch_tags, other-key k name (spec_key Fetch) printed parts.fetch_specs refl, other-key k name (spec_key Push) printed parts.push_specs refl, same-key k name k (λ x. x) us refl) (append-nil (map (λ x. Some x) us)))
      ∙ explicit-some (λ x. x) us ∙ map-id us

  pub told-push_urls : explicit (five (spec.address_key Push)) ≡ (if d then [] ∷ parts.push_urls else parts.push_urls)
  unfolding spec.address_key spec.tag_key spec_key
  told-push_urls =
      let k = spec.address_key Push in
      let us = if d then [] ∷ parts.push_urls else parts.push_urls in
      ap explicit (split k ∙ rw (other-key k name (spec.address_key Fetch) (λ x. x) (if c then [] ∷ parts.urls else parts.urls) refl, untagged k refl parts.fetch_tags, other-key k name (spec_key Fetch) printed parts.fetch_specs refl, other-key k name (spec_key Push) printed parts.push_specs refl, same-key k name k (λ x. x) us refl) (append-nil (map (λ x. Some x) us)))
      ∙ explicit-some (λ x. x) us ∙ map-id us

  pub told-tags : five spec.tag_key ≡ told spec.tag_key name (spec.tag_lines parts.fetch_tags)
  unfolding spec.address_key spec.tag_key spec_key
  told-tags =
      let k = spec.tag_key in
      split k ∙ rw (other-key k name (spec.address_key Fetch) (λ x. x) (if c then [] ∷ parts.urls else parts.urls) refl, other-key k name (spec.address_key Push) (λ x. x) (if d then [] ∷ parts.push_urls else parts.push_urls) refl, other-key k name (spec_key Fetch) printed parts.fetch_specs refl, other-key k name (spec_key Push) printed parts.push_specs refl) (append-nil (told k name (spec.tag_lines parts.fetch_tags)))

  pub told-fetch_specs : explicit (five (spec_key Fetch)) ≡ map printed parts.fetch_specs
  unfolding spec.address_key spec.tag_key spec_key
  told-fetch_specs =
      let k = spec_key Fetch in
      ap explicit (split k ∙ rw (other-key k name (spec.address_key Fetch) (λ x. x) (if c then [] ∷ parts.urls else parts.urls) refl, other-key k name (spec.address_key Push) (λ x. x) (if d then [] ∷ parts.push_urls else parts.push_urls) refl, untagged k refl parts.fetch_tags, other-key k name (spec_key Push) printed parts.push_specs refl, same-key k name k printed parts.fetch_specs refl) (append-nil (map (λ x. Some (printed x)) parts.fetch_specs)))
      ∙ explicit-some printed parts.fetch_specs

  pub told-push_specs : explicit (five (spec_key Push)) ≡ map printed parts.push_specs
  unfolding spec.address_key spec.tag_key spec_key
  told-push_specs =
      let k = spec_key Push in
      ap explicit (split k ∙ rw (other-key k name (spec.address_key Fetch) (λ x. x) (if c then [] ∷ parts.urls else parts.urls) refl, other-key k name (spec.address_key Push) (λ x. x) (if d then [] ∷ parts.push_urls else parts.push_urls) refl, untagged k refl parts.fetch_tags, other-key k name (spec_key Fetch) printed parts.fetch_specs refl, same-key k name k printed parts.push_specs refl) refl)
      ∙ explicit-some printed parts.push_specs

-- addresses of which none is empty
all-at : {A : Type 0} (p : A → Bool) (xs : List A) → list_all p xs ≡ true → (k : ℕ) (z : A) → k < length xs → p (get_or xs k z) ≡ true
all-at p [] full k z lt = absurd (omega arith)
all-at p (x ∷ xs) full zero z lt = (and-both (p x) (list_all p xs) full).0
all-at p (x ∷ xs) full (suc k) z lt = all-at p xs (and-both (p x) (list_all p xs) full).1 k z (omega (arith, lt))

kept : (urls : List (List ℕ)) → list_all remotes.has_bytes urls ≡ true → remotes.uncleared urls ≡ urls
kept urls full =
    let e = suffix_len_is remotes.has_bytes urls 0 [] (omega arith) (λ k low lt. all-at remotes.has_bytes urls full k [] lt) (λ lt. absurd (omega (arith, lt))) in
    let none : length urls - suffix_len remotes.has_bytes urls ≡ 0 = omega (arith, e) in
    ap (λ n. drop n urls) none

cleared : (urls : List (List ℕ)) → list_all remotes.has_bytes urls ≡ true → remotes.uncleared ([] ∷ urls) ≡ urls
cleared urls full =
    let e = suffix_len_is remotes.has_bytes ([] ∷ urls) 1 [] (omega arith) (λ k low lt. behind-first urls full k low lt) (λ lt. refl) in
    let one : length ([] ∷ urls) - suffix_len remotes.has_bytes ([] ∷ urls) ≡ 1 = omega (arith, e) in
    ap (λ n. drop n ([] ∷ urls)) one
  where
    behind-first : (urls : List (List ℕ)) → list_all remotes.has_bytes urls ≡ true → (k : ℕ) → 1 ≤ k → k < length ([] ∷ urls) → remotes.has_bytes (get_or ([] ∷ urls) k []) ≡ true
    behind-first urls full zero low lt = absurd (omega (arith, low))
    behind-first urls full (suc k) low lt = all-at remotes.has_bytes urls full k [] (omega (arith, lt))

read-urls : (b : Bool) (urls : List (List ℕ)) → list_all remotes.has_bytes urls ≡ true → remotes.uncleared (if b then [] ∷ urls else urls) ≡ urls
read-urls true urls full = cleared urls full
read-urls false urls full = kept urls full

not-itself : (name : List ℕ) (urls : List (List ℕ)) → (length urls == 0) ≡ false → remotes.or_itself name urls ≡ urls
not-itself name [] some = absurd (cc some)
not-itself name (url ∷ urls) some = refl

module _ (file : Contents) (name : List ℕ) (parts : RemoteParts) (trusted : file.meta.trusted ≡ true) (readable : IsReadable parts) where
  abbrev c : Bool
  c = spec.clears file name Fetch

  abbrev d : Bool
  d = spec.clears file name Push

  abbrev after : List Section
  after = (spec.saved file name parts).sections

  values : (k : List ℕ) → IsSavedKey k → values_of remote (Some name) k true after ≡ told k name (spec.lines_of c d parts)
  unfolding values_of spec.saved
  values k covers = placed-all file.meta name trusted (spec.lines_of c d parts) k (spec.cleaned name file.sections) (cleaned-none k name covers file.sections) (c || d) (spec.last_place (spec.is_own file.meta name) (spec.cleaned name file.sections)) refl

  is-found : remotes.is_remote after name ≡ true
  unfolding spec.saved
  is-found = placed-found file.meta name trusted (spec.lines_of c d parts) (spec.cleaned name file.sections) (c || d) (spec.last_place (spec.is_own file.meta name) (spec.cleaned name file.sections)) refl

  tags-by : (tags : Tags) → remotes.tags_said (last_or None (explicit (told spec.tag_key name (spec.tag_lines tags)))) ≡ Ok tags
  unfolding spec.tag_lines spec.tag_key explicit last_or
  tags-by choices.All = refl
  tags-by choices.Included = refl
  tags-by choices.None = refl

  tags : remotes.tags_in after name ≡ Ok parts.fetch_tags
  unfolding remotes.tags_in spec.tag_key
  tags = ap (λ vs. remotes.tags_said (last_or None (explicit vs))) (values spec.tag_key saved-tag ∙ told-tags c d name parts) ∙ tags-by parts.fetch_tags

  urls-of : remotes.addresses_of after name Fetch ≡ parts.urls
  unfolding remotes.addresses_of spec.address_key
  urls-of =
      ap (λ us. remotes.or_itself name (remotes.uncleared us)) (ap explicit (values (spec.address_key Fetch) saved-url) ∙ told-urls c d name parts)
      ∙ ap (remotes.or_itself name) (read-urls c parts.urls readable.urls.bytes) ∙ not-itself name parts.urls readable.address

  push_urls-of : remotes.addresses_of after name Push ≡ parts.push_urls
  unfolding remotes.addresses_of spec.address_key
  push_urls-of =
      ap remotes.uncleared (ap explicit (values (spec.address_key Push) saved-pushurl) ∙ told-push_urls c d name parts)
      ∙ read-urls d parts.push_urls readable.push_urls.bytes

  urls : remotes.addresses_in after name Fetch ≡ Ok parts.urls
  unfolding remotes.addresses_in
  urls = rw (urls-of, readable.urls.feeds) refl

  push_urls : remotes.addresses_in after name Push ≡ Ok parts.push_urls
  unfolding remotes.addresses_in
  push_urls = rw (push_urls-of, readable.push_urls.feeds) refl

  parsed-all : (direction : Direction) (specs : List Spec) → AreSpecs direction specs → all_of (parsed (remotes.operation_of direction)) (map printed specs) ≡ Ok specs
  unfolding all_of
  parsed-all direction [] are = refl
  parsed-all direction (s ∷ ss) are =
      let front = are 0 s (omega arith) in
      let one : parsed (remotes.operation_of direction) (printed s) ≡ Ok s = ap (λ o. parsed o (printed s)) (sym front.0) ∙ front.1 in
      rw (one, parsed-all direction ss (λ k d lt. are (suc k) d (omega (arith, lt)))) refl

  fetch_specs : remotes.specs_in after name Fetch ≡ Ok (ascending spec_cmp parts.fetch_specs)
  unfolding remotes.specs_in
  fetch_specs = rw (ap explicit (values (spec_key Fetch) saved-fetch) ∙ told-fetch_specs c d name parts, parsed-all Fetch parts.fetch_specs readable.fetch_specs) refl

  push_specs : remotes.specs_in after name Push ≡ Ok (ascending spec_cmp parts.push_specs)
  unfolding remotes.specs_in
  push_specs = rw (ap explicit (values (spec_key Push) saved-push) ∙ told-push_specs c d name parts, parsed-all Push parts.push_specs readable.push_specs) refl

  pub reads-back : ReadsBack after name parts
  reads-back = record { found = is-found; answer = all-parts after name tags urls push_urls fetch_specs push_specs refl }
