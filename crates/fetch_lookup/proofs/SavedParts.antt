-- Parts of what is saved.
use Rattle.std.proofs.Common.{◌≡◌, ℕ, zero, suc, ◌<◌, Bool, true, false, not, ◌&&◌, ◌||◌, List, [], ◌∷◌, ◌++◌, length, get_or, drop, Option, Some, None, refl, sym, ap, ◌∙◌, arith}
use Rattle.std.specs.Prelude.{codes, filter, map, position, slice_get, if◌then◌else◌}
use Rattle.std.specs.List.{cons_option, list_any, flat_map, filter_map}
use Rattle.std.specs.Option.{option_map_or}
use Rattle.std.proofs.lemmas.List.Elements.{filter_map-append}
use Rattle.fetch_specs.specs.Parses.{printed}
use Rattle.fetch_specs.specs.Specs.{Spec}
use Rattle.fetch_specs.specs.declared.tags.Tags.{Tags}
use Rattle.fetch_specs.specs.declared.tags.Tags.TheVariants as choices
use Rattle.fetch_config.specs.Contents.{Contents, with_sections, on_section, without_key}
use Rattle.fetch_config.specs.Kept.{is_nul}
use Rattle.fetch_config.specs.Lookups.{values_at, explicit}
use Rattle.fetch_config.specs.Pieces.{is_same_name}
use Rattle.fetch_config.specs.declared.section.Section.{Section}
use Rattle.fetch_lookup.specs.declared.direction.Direction.TheVariants.{Push, Fetch}
use Rattle.fetch_lookup.specs.declared.remote.RemoteParts.{RemoteParts}
use Rattle.fetch_lookup.specs.Remotes.{spec_key}
use Rattle.fetch_lookup.specs.Saved as spec
use Rattle.fetch_lookup.proofs.Edits.{on-on, on-same, two}

any-by : (key : List ℕ) (p : List ℕ → Bool) (k : List ℕ) (v : Option (List ℕ)) (es : List (List ℕ × Option (List ℕ))) (b : Bool) → is_same_name k key ≡ b
    → list_any p (explicit (flat_map (values_at key) es)) ≡ list_any (λ e. is_same_name e.0 key && option_map_or p e.1 false) es
    → list_any p (explicit (flat_map (values_at key) ((k, v) ∷ es))) ≡ list_any (λ e. is_same_name e.0 key && option_map_or p e.1 false) ((k, v) ∷ es)
unfolding explicit
any-by key p k v es false e rest = rw e rest
any-by key p k None es true e rest = rw e rest
any-by key p k (Some t) es true e rest = rw e (ap (λ b. p t || b) rest)

-- A test of the values of a key that aren't implicit is a test of the entries.
pub any-explicit : (key : List ℕ) (p : List ℕ → Bool) (es : List (List ℕ × Option (List ℕ))) → list_any (λ e. is_same_name e.0 key && option_map_or p e.1 false) es ≡ list_any p (explicit (flat_map (values_at key) es))
unfolding explicit
any-explicit key p [] = refl
any-explicit key p (e ∷ es) = sym (any-by key p e.0 e.1 es (is_same_name e.0 key) refl (sym (any-explicit key p es)))

or-false : (a b : Bool) → (a || b) ≡ false → (a ≡ false) × (b ≡ false)
or-false true b e = cc
or-false false b e = (refl, e)

-- the last place, looked for from the end
pub last-none : {A : Type 0} (p : A → Bool) (xs : List A) → list_any p xs ≡ false → spec.last_place p xs ≡ None
unfolding spec.last_place
last-none p [] none = refl
last-none p (x ∷ xs) none =
    let h = or-false (p x) (list_any p xs) none in
    rw (h.0, last-none p xs h.1)

pub last-found : {A : Type 0} (p : A → Bool) (xs : List A) (i : ℕ) (x : A) → i < length xs → x ≡ get_or xs i x → p x ≡ true → list_any p (drop (suc i) xs) ≡ false → spec.last_place p xs ≡ Some i
unfolding spec.last_place
last-found p [] i x lt is here none = absurd (omega arith)
last-found p (y ∷ ys) zero x lt is here none = rw (last-none p ys none, ap p (sym is) ∙ here)
last-found p (y ∷ ys) (suc i) x lt is here none = rw (last-found p ys i x (omega (arith, lt)) is here none)

-- all five keys go
pub cleaned-keys : (s : Section) → without_key (codes "push") (without_key (codes "fetch") (without_key (codes "tagOpt") (without_key (codes "pushurl") (without_key (codes "url") s)))) ≡ spec.cleaned_section s
unfolding spec.cleaned_section spec.address_key spec.tag_key spec_key
cleaned-keys s =
    let k : List ℕ → List ℕ × Option (List ℕ) → Bool = λ key e. is_same_name e.0 key in
    let es = s.entries in
    let n : (List ℕ × Option (List ℕ) → Bool) → List (List ℕ × Option (List ℕ)) → List (List ℕ × Option (List ℕ)) = λ p xs. filter (λ e. not (p e)) xs in
    ap (λ entries. record s { entries = entries })
    (ap (λ ys. n (k (codes "push")) (n (k (codes "fetch")) (n (k (codes "tagOpt")) ys))) (two (k (codes "url")) (k (codes "pushurl")) es)
    ∙ ap (λ ys. n (k (codes "push")) (n (k (codes "fetch")) ys)) (two (λ e. k (codes "url") e || k (codes "pushurl") e) (k (codes "tagOpt")) es)
    ∙ ap (λ ys. n (k (codes "push")) ys) (two (λ e. (k (codes "url") e || k (codes "pushurl") e) || k (codes "tagOpt") e) (k (codes "fetch")) es)
    ∙ two (λ e. ((k (codes "url") e || k (codes "pushurl") e) || k (codes "tagOpt") e) || k (codes "fetch") e) (k (codes "push")) es)

pub cleaned-by : (i : ℕ) (f0 f1 f2 f3 f4 f5 : Contents) → f1 ≡ with_sections f0 (on_section i (without_key (codes "url")) f0.sections) → f2 ≡ with_sections f1 (on_section i (without_key (codes "pushurl")) f1.sections)
    → f3 ≡ with_sections f2 (on_section i (without_key (codes "tagOpt")) f2.sections) → f4 ≡ with_sections f3 (on_section i (without_key (codes "fetch")) f3.sections) → f5 ≡ with_sections f4 (on_section i (without_key (codes "push")) f4.sections)
    → f5 ≡ with_sections f0 (on_section i spec.cleaned_section f0.sections)
cleaned-by i f0 f1 f2 f3 f4 f5 e1 e2 e3 e4 e5 =
    let xs = f0.sections in
    let w = without_key in
    rw (e5, e4, e3, e2, e1)
    (ap (with_sections f0)
    (ap (λ ys. on_section i (w (codes "push")) (on_section i (w (codes "fetch")) (on_section i (w (codes "tagOpt")) ys))) (on-on i (w (codes "pushurl")) (w (codes "url")) xs)
    ∙ ap (λ ys. on_section i (w (codes "push")) (on_section i (w (codes "fetch")) ys)) (on-on i (w (codes "tagOpt")) (λ s. w (codes "pushurl") (w (codes "url") s)) xs)
    ∙ ap (λ ys. on_section i (w (codes "push")) ys) (on-on i (w (codes "fetch")) (λ s. w (codes "tagOpt") (w (codes "pushurl") (w (codes "url") s))) xs)
    ∙ on-on i (w (codes "push")) (λ s. w (codes "fetch") (w (codes "tagOpt") (w (codes "pushurl") (w (codes "url") s)))) xs
    ∙ on-same i _ spec.cleaned_section cleaned-keys xs))

-- values that have a NUL, whatever their keys are
keyed : (key : List ℕ) (texts : List (List ℕ)) → filter_map spec.nul_at (map (λ t. (key, t)) texts) ≡ filter_map (position is_nul) texts
keyed key [] = refl
keyed key (t ∷ ts) = ap (cons_option (position is_nul t)) (keyed key ts)

addressed : (clears : Bool) (key : List ℕ) (texts : List (List ℕ)) → filter_map spec.nul_at (map (λ t. (key, t)) (if clears then [] ∷ texts else texts)) ≡ filter_map (position is_nul) texts
addressed true key texts = keyed key texts
addressed false key texts = keyed key texts

specced : (key : List ℕ) (specs : List Spec) → filter_map spec.nul_at (map (λ s. (key, printed s)) specs) ≡ filter_map (position is_nul) (map printed specs)
specced key [] = refl
specced key (s ∷ ss) = ap (cons_option (position is_nul (printed s))) (specced key ss)

tagged : (tags : Tags) → filter_map spec.nul_at (spec.tag_lines tags) ≡ []
unfolding spec.tag_lines
tagged choices.All = refl
tagged choices.Included = refl
tagged choices.None = refl

-- The first NUL of a line is the first of a value.
pub nul-in-lines : (c d : Bool) (parts : RemoteParts) → slice_get (filter_map spec.nul_at (spec.lines_of c d parts)) 0 ≡ spec.nul_in (spec.values_of_parts parts)
unfolding spec.lines_of
nul-in-lines c d parts =
    let a = spec.address_lines c Fetch parts.urls in
    let b = spec.address_lines d Push parts.push_urls in
    let t = spec.tag_lines parts.fetch_tags in
    let f = spec.spec_lines Fetch parts.fetch_specs in
    let p = spec.spec_lines Push parts.push_specs in
    let n = filter_map spec.nul_at in
    let v = filter_map (position is_nul) in
    ap (λ xs. slice_get xs 0)
    (filter_map-append spec.nul_at a (b ++ (t ++ (f ++ p)))
    ∙ ap (λ xs. n a ++ xs) (filter_map-append spec.nul_at b (t ++ (f ++ p)))
    ∙ ap (λ xs. n a ++ (n b ++ xs)) (filter_map-append spec.nul_at t (f ++ p))
    ∙ ap (λ xs. n a ++ (n b ++ (n t ++ xs))) (filter_map-append spec.nul_at f p)
    ∙ rw (addressed c (spec.address_key Fetch) parts.urls, addressed d (spec.address_key Push) parts.push_urls, tagged parts.fetch_tags, specced (spec_key Fetch) parts.fetch_specs, specced (spec_key Push) parts.push_specs)
    (sym (filter_map-append (position is_nul) parts.urls (parts.push_urls ++ (map printed parts.fetch_specs ++ map printed parts.push_specs))
    ∙ ap (λ xs. v parts.urls ++ xs) (filter_map-append (position is_nul) parts.push_urls (map printed parts.fetch_specs ++ map printed parts.push_specs))
    ∙ ap (λ xs. v parts.urls ++ (v parts.push_urls ++ xs)) (filter_map-append (position is_nul) (map printed parts.fetch_specs) (map printed parts.push_specs)))))
