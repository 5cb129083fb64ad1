-- An upstream that is found is mapped to its tracking branch.
use Rattle.std.proofs.Common.{◌≡◌, ℕ, zero, suc, Bool, true, false, ◌||◌, ◌⊎◌, inl, inr, List, [], ◌∷◌, length, Option, Some, None, Result, Ok, Err, refl, sym, ap, subst, ◌∙◌}
use Rattle.std.specs.Prelude.{◌==◌, slice_get, nat_lt, if◌then◌else◌}
use Rattle.std.specs.List.{Contains, find, flat_map, list_any}
use Rattle.std.specs.Option.{option_and_then}
use Rattle.std.specs.Result.{result_map_both}
use Rattle.std.specs.BTreeSet.{insert_key}
use Rattle.std.specs.Ordering.{match_ordering}
use Rattle.std.specs.declared.cmp.Ordering.{Ordering}
use Rattle.std.specs.declared.cmp.Ordering.TheVariants.{Less, Equal, Greater}
use Rattle.std.proofs.lemmas.List.Elements.{Contains-append_cases}
use Rattle.fetch_specs.proofs.Members.{none_in, first_in, first_or_rest, in_rest}
use Rattle.fetch_specs.proofs.Places.{each_source}
use Rattle.fetch_specs.proofs.Prints.{reads_again}
use Rattle.fetch_specs.proofs.Telling.{told_where_it_leads}
use Rattle.fetch_specs.specs.Categories.{category_of}
use Rattle.fetch_specs.specs.Leads.{mapped_to}
use Rattle.fetch_specs.specs.Made.{IsLead}
use Rattle.fetch_specs.specs.Matches.{is_exclusion, source_taken, name_mapping, sources_of}
use Rattle.fetch_specs.specs.Names.{full_name_trouble}
use Rattle.fetch_specs.specs.Parses.{parsed, IsSpec}
use Rattle.fetch_specs.specs.Specs.{Spec}
use Rattle.fetch_specs.specs.declared.error.SpecError.{SpecError}
use Rattle.fetch_specs.specs.declared.found.Match.{Match}
use Rattle.fetch_specs.specs.declared.found.SourceRef.{SourceRef}
use Rattle.fetch_specs.specs.declared.found.SourceRef.TheVariants as sources
use Rattle.fetch_specs.specs.declared.tags.Tags.{Tags}
use Rattle.fetch_config.specs.declared.section.Section.{Section}
use Rattle.fetch_lookup.specs.declared.direction.Direction.TheVariants.{Push, Fetch}
use Rattle.fetch_lookup.specs.declared.find.Error.{Error as FindError}
use Rattle.fetch_lookup.specs.declared.find.Error.TheVariants as finding
use Rattle.fetch_lookup.specs.declared.leading.Leading.{Leading}
use Rattle.fetch_lookup.specs.declared.remote.RemoteParts.{RemoteParts}
use Rattle.fetch_lookup.specs.declared.upstream.Error.{Error}
use Rattle.fetch_lookup.specs.declared.upstream.Error.TheVariants.{AmbiguousRemotes, BranchCategory}
use Rattle.fetch_lookup.specs.Names.{name_of, remote_names_of}
use Rattle.fetch_lookup.specs.Ordered.{placed, ascending}
use Rattle.fetch_lookup.specs.Remotes as remotes
use Rattle.fetch_lookup.specs.Results.{and_then, all_of, in_front}
use Rattle.fetch_lookup.specs.Saved.{first_or_empty}
use Rattle.fetch_lookup.specs.SpecOrder.{spec_cmp}
use Rattle.fetch_lookup.specs.Upstreams as spec

-- what is in order was there before
insert-by : {K : Type 0} (R : K → K → Ordering) (k y : K) (ys : List K) (x : K) (r : Ordering) → (Contains (insert_key R ys k) x → (k ≡ x) ⊎ Contains ys x)
    → Contains (match_ordering r (k ∷ y ∷ ys) (y ∷ ys) (y ∷ insert_key R ys k)) x → (k ≡ x) ⊎ Contains (y ∷ ys) x
insert-by R k y ys x Less rest there = first_or_rest k (y ∷ ys) x there
insert-by R k y ys x Equal rest there = inr there
insert-by R k y ys x Greater rest there = step (first_or_rest y (insert_key R ys k) x there)
  where
    behind : (k ≡ x) ⊎ Contains ys x → (k ≡ x) ⊎ Contains (y ∷ ys) x
    behind (inl same) = inl same
    behind (inr more) = inr (in_rest y ys x more)

    step : (y ≡ x) ⊎ Contains (insert_key R ys k) x → (k ≡ x) ⊎ Contains (y ∷ ys) x
    step (inl same) = inr (subst (λ z. Contains (y ∷ ys) z) same (first_in y ys))
    step (inr more) = behind (rest more)

inserted : {K : Type 0} (R : K → K → Ordering) (k : K) (ys : List K) (x : K) → Contains (insert_key R ys k) x → (k ≡ x) ⊎ Contains ys x
inserted R k [] x there = first_or_rest k [] x there
inserted R k (y ∷ ys) x there = insert-by R k y ys x (R k y) (inserted R k ys x) there

was-there : {K : Type 0} (R : K → K → Ordering) (keys values : List K) (x : K) → Contains (placed R keys values) x → Contains keys x ⊎ Contains values x
unfolding placed
was-there R keys [] x there = inl there
was-there R keys (v ∷ vs) x there = step (was-there R (insert_key R keys v) vs x there)
  where
    one : (v ≡ x) ⊎ Contains keys x → Contains keys x ⊎ Contains (v ∷ vs) x
    one (inl same) = inr (subst (λ z. Contains (v ∷ vs) z) same (first_in v vs))
    one (inr more) = inl more

    step : Contains (insert_key R keys v) x ⊎ Contains vs x → Contains keys x ⊎ Contains (v ∷ vs) x
    step (inl more) = one (inserted R v keys x more)
    step (inr more) = inr (in_rest v vs x more)

-- what each of a list is made from
from-by : {A B E : Type 0} (f : A → Result B E) (x : A) (xs : List A) (ys : List B) (y : B) (a : Result B E) (b : Result (List B) E) → f x ≡ a → in_front a b ≡ Ok ys → Contains ys y
    → ((vs : List B) → b ≡ Ok vs → Contains vs y → (z : A) × (f z ≡ Ok y)) → (z : A) × (f z ≡ Ok y)
from-by f x xs ys y (Err e) b p is there rest = cc
from-by f x xs ys y (Ok v) (Err e) p is there rest = cc
from-by {A = A} {B = B} f x xs ys y (Ok v) (Ok vs) p is there rest =
    let same : ys ≡ v ∷ vs = cc in
    step (first_or_rest v vs y (subst (λ (zs : List B). Contains zs y) same there))
  where
    step : (v ≡ y) ⊎ Contains vs y → (z : A) × (f z ≡ Ok y)
    step (inl here) = (x, p ∙ ap Ok here)
    step (inr more) = rest vs refl more

made-from : {A B E : Type 0} (f : A → Result B E) (xs : List A) (ys : List B) (y : B) → all_of f xs ≡ Ok ys → Contains ys y → (z : A) × (f z ≡ Ok y)
unfolding all_of
made-from {B = B} f [] ys y is there =
    let none : ys ≡ [] = cc in
    absurd (none_in y (subst (λ (zs : List B). Contains zs y) none there))
made-from f (x ∷ xs) ys y is there = from-by f x xs ys y (f x) (all_of f xs) refl is there (λ vs e more. made-from f xs vs y e more)

-- refspecs of a remote that is found are such as texts say
fetched-by : (sections : List Section) (name : List ℕ) (remote : RemoteParts) (a : Result Tags FindError) (b p : Result (List (List ℕ)) FindError) (d q : Result (List Spec) FindError)
    → and_then a (λ tags. and_then b λ urls. and_then p λ push_urls. and_then d λ fetch_specs. and_then q λ push_specs. Ok (record { name = name_of name; urls = urls; push_urls = push_urls; fetch_specs = fetch_specs; push_specs = push_specs; fetch_tags = tags })) ≡ Ok remote
    → d ≡ Ok remote.fetch_specs
fetched-by sections name remote (Err e) b p d q is = cc
fetched-by sections name remote (Ok t) (Err e) p d q is = cc
fetched-by sections name remote (Ok t) (Ok u) (Err e) d q is = cc
fetched-by sections name remote (Ok t) (Ok u) (Ok v) (Err e) q is = cc
fetched-by sections name remote (Ok t) (Ok u) (Ok v) (Ok f) (Err e) is = cc
fetched-by sections name remote (Ok t) (Ok u) (Ok v) (Ok f) (Ok g) is =
    let made : RemoteParts = record { name = name_of name; urls = u; push_urls = v; fetch_specs = f; push_specs = g; fetch_tags = t } in
    let same : made ≡ remote = cc in
    ap (λ (r : RemoteParts). Ok r.fetch_specs) same

fetched : (sections : List Section) (name : List ℕ) (remote : RemoteParts) → remotes.found_in sections name ≡ Ok remote → remotes.specs_in sections name Fetch ≡ Ok remote.fetch_specs
unfolding remotes.found_in
fetched sections name remote is =
    fetched-by sections name remote (remotes.tags_in sections name) (remotes.addresses_in sections name Fetch) (remotes.addresses_in sections name Push) (remotes.specs_in sections name Fetch) (remotes.specs_in sections name Push) is

said-by : (name : List ℕ) (texts : List (List ℕ)) (specs : List Spec) (s : Spec) (r : Result (List Spec) SpecError) → all_of (parsed (remotes.operation_of Fetch)) texts ≡ r
    → result_map_both (ascending spec_cmp) (finding.RefSpec Fetch name) r ≡ Ok specs → Contains specs s → IsSpec s
said-by name texts specs s (Err e) r is there = cc
said-by name texts specs s (Ok values) r is there =
    let same : specs ≡ ascending spec_cmp values = cc in
    step (was-there spec_cmp [] values s (subst (λ (zs : List Spec). Contains zs s) same there))
  where
    step : Contains [] s ⊎ Contains values s → IsSpec s
    step (inl none) = absurd (none_in s none)
    step (inr more) =
        let m = made-from (parsed (remotes.operation_of Fetch)) texts values s r more in
        reads_again (remotes.operation_of Fetch) m.0 s m.1

is-said : (sections : List Section) (name : List ℕ) (remote : RemoteParts) (s : Spec) → remotes.found_in sections name ≡ Ok remote → Contains remote.fetch_specs s → IsSpec s
unfolding remotes.specs_in
is-said sections name remote s is there = said-by name (remotes.texts_of sections name (remotes.spec_key Fetch)) remote.fetch_specs s (all_of (parsed (remotes.operation_of Fetch)) (remotes.texts_of sections name (remotes.spec_key Fetch))) refl (fetched sections name remote is) there

-- a name that is mapped is mapped by no exclusion
positive-by : (specs : List Spec) (s : Spec) (name : List ℕ) (tracking : List ℕ) (o : Option (List ℕ)) (b : Bool) → is_exclusion s.mode ≡ b → option_and_then (λ m. m.rhs) (name_mapping specs 0 s 0 name o) ≡ Some tracking → is_exclusion s.mode ≡ false
positive-by specs s name tracking o false is maps = is
positive-by specs s name tracking None true is maps = cc
positive-by specs s name tracking (Some middle) true is maps =
    let none : option_and_then (λ (m : Match). m.rhs) (name_mapping specs 0 s 0 name (Some middle)) ≡ None = rw is refl in
    absurd (cc (sym none ∙ maps))

positive : (specs : List Spec) (s : Spec) (name tracking : List ℕ) → mapped_to specs s name ≡ Some tracking → is_exclusion s.mode ≡ false
positive specs s name tracking maps = positive-by specs s name tracking (source_taken s.source name) (is_exclusion s.mode) refl maps

-- what is got is there
got : {A : Type 0} (xs : List A) (i : ℕ) (x : A) → slice_get xs i ≡ Some x → Contains xs x
got [] i x is = cc
got (y ∷ ys) zero x is =
    let same : y ≡ x = cc in
    subst (λ z. Contains (y ∷ ys) z) same (first_in y ys)
got (y ∷ ys) (suc i) x is = in_rest y ys x (got ys i x is)

only-item : (tracking name : List ℕ) (i : ℕ) → slice_get (tracking ∷ []) i ≡ Some name → name ≡ tracking
only-item tracking name zero is = cc
only-item tracking name (suc i) is = cc

-- a source that leads there is mapped there
lead-maps : (specs : List Spec) (tracking upstream : List ℕ) (m : Match) → ((s : Spec) → Contains specs s → IsSpec s) → IsLead specs (tracking ∷ []) m → m.lhs ≡ sources.FullName upstream → spec.IsFollowed specs upstream tracking
lead-maps specs tracking upstream m said l lhs =
    let there = got specs m.spec_index l.spec l.of_spec in
    let name : l.name ≡ tracking = only-item tracking l.name l.item l.of_item in
    let full : sources.FullName l.source ≡ sources.FullName upstream = sym (ap (λ (x : Match). x.lhs) l.is) ∙ lhs in
    let source : l.source ≡ upstream = cc in
    let maps = ((told_where_it_leads specs l.spec l.name l.source (said l.spec there)).0 l.leads).1 in
    let there_too : mapped_to specs l.spec upstream ≡ Some tracking = ap (mapped_to specs l.spec) (sym source) ∙ maps ∙ ap Some name in
    record { spec = l.spec; there = there; positive = positive specs l.spec upstream tracking there_too; maps = there_too }

from-flat : {A B : Type 0} (f : A → List B) (xs : List A) (y : B) → Contains (flat_map f xs) y → (x : A) × Contains xs x × Contains (f x) y
from-flat f [] y there = absurd (none_in y there)
from-flat {A = A} f (x ∷ xs) y there = step (Contains-append_cases (f x) (flat_map f xs) y there) (from-flat f xs y)
  where
    step : Contains (f x) y ⊎ Contains (flat_map f xs) y → (Contains (flat_map f xs) y → (z : A) × Contains xs z × Contains (f z) y) → (z : A) × Contains (x ∷ xs) z × Contains (f z) y
    step (inl here) more = (x, first_in x xs, here)
    step (inr rest) more =
        let m = more rest in
        (m.0, in_rest x xs m.0 m.1, m.2)

named-by : (s : SourceRef) (name : List ℕ) → Contains (spec.names_of_source s) name → s ≡ sources.FullName name
named-by (sources.FullName text) name there = step (first_or_rest text [] name there)
  where
    step : (text ≡ name) ⊎ Contains [] name → sources.FullName text ≡ sources.FullName name
    step (inl same) = ap sources.FullName same
    step (inr none) = absurd (none_in name none)
named-by (sources.ObjectId id) name there = absurd (none_in name there)

names-map : (specs : List Spec) (tracking upstream : List ℕ) → ((s : Spec) → Contains specs s → IsSpec s) → Contains (spec.names_leading specs tracking) upstream → spec.IsFollowed specs upstream tracking
unfolding spec.names_leading
names-map specs tracking upstream said there =
    let m = from-flat (λ (m : Match). spec.names_of_source m.lhs) (sources_of specs (tracking ∷ [])) upstream there in
    lead-maps specs tracking upstream m.0 said (((each_source specs (tracking ∷ []) m.0).0 m.1).0) (named-by m.0.lhs upstream m.2)

found-by : {A : Type 0} (p : A → Bool) (x : A) (xs : List A) (y : A) (b : Bool) → p x ≡ b → find p (x ∷ xs) ≡ Some y → (find p xs ≡ Some y → Contains xs y × (p y ≡ true)) → Contains (x ∷ xs) y × (p y ≡ true)
found-by p x xs y true is found rest =
    let first : find p (x ∷ xs) ≡ Some x = rw is refl in
    let both : Some x ≡ Some y = sym first ∙ found in
    let same : x ≡ y = cc in
    (subst (λ z. Contains (x ∷ xs) z) same (first_in x xs), ap p (sym same) ∙ is)
found-by p x xs y false is found rest =
    let first : find p (x ∷ xs) ≡ find p xs = rw is refl in
    let r = rest (sym first ∙ found) in
    (in_rest x xs y r.0, r.1)

found-there : {A : Type 0} (p : A → Bool) (xs : List A) (y : A) → find p xs ≡ Some y → Contains xs y × (p y ≡ true)
found-there p [] y is = cc
found-there p (x ∷ xs) y is = found-by p x xs y (p x) refl is (found-there p xs y)

only-source : (texts : List (List ℕ)) → (length texts == 1) ≡ true → Contains texts (first_or_empty texts)
only-source [] one = cc
only-source (t ∷ ts) one = first_in t ts

-- the remote of one that leads there
leading-by : (sections : List Section) (tracking name : List ℕ) (l : Leading) (r : Result RemoteParts FindError) → remotes.found_in sections name ≡ r → result_map_both (spec.leading_by tracking name) spec.find_refusal r ≡ Ok l
    → (remotes.found_in sections name ≡ Ok l.remote) × (l.sources ≡ spec.names_leading l.remote.fetch_specs tracking)
leading-by sections tracking name l (Err e) is made = cc
leading-by sections tracking name l (Ok remote) is made =
    let same : spec.leading_by tracking name remote ≡ l = cc in
    (is ∙ ap (λ (x : Leading). Ok x.remote) same, sym (ap (λ (x : Leading). x.sources) same) ∙ ap (λ (x : Leading). spec.names_leading x.remote.fetch_specs tracking) same)

leading-is : (sections : List Section) (tracking name : List ℕ) (l : Leading) → spec.leading_in sections tracking name ≡ Ok l → (remotes.found_in sections name ≡ Ok l.remote) × (l.sources ≡ spec.names_leading l.remote.fetch_specs tracking)
unfolding spec.leading_in
leading-is sections tracking name l is = leading-by sections tracking name l (remotes.found_in sections name) refl is

module _ (sections : List Section) (tracking upstream : List ℕ) (remote : RemoteParts) where
  abbrev Goal : Type 0
  Goal = spec.IsFollowed remote.fetch_specs upstream tracking

  validated : (l : Leading) (o : Option ℕ) → spec.validated_by l o ≡ Ok (Some (upstream, remote)) → (first_or_empty l.sources ≡ upstream) × (l.remote ≡ remote)
  validated l None is =
      let pair : (first_or_empty l.sources, l.remote) ≡ (upstream, remote) = cc in
      (ap (λ (p : List ℕ × RemoteParts). p.0) pair, ap (λ (p : List ℕ × RemoteParts). p.1) pair)
  validated l (Some place) is = cc

  at-one : (found : List Leading) → all_of (spec.leading_in sections tracking) (remote_names_of sections) ≡ Ok found → (o : Option Leading) → find spec.is_single found ≡ o → spec.upstream_at o ≡ Ok (Some (upstream, remote)) → Goal
  at-one found all None is up = cc
  at-one found all (Some l) is up =
      let v = validated l (full_name_trouble (first_or_empty l.sources)) up in
      let f = found-there spec.is_single found l is in
      let m = made-from (spec.leading_in sections tracking) (remote_names_of sections) found l all f.0 in
      let r = leading-is sections tracking m.0 l m.1 in
      let source = only-source l.sources f.1 in
      let there : Contains (spec.names_leading l.remote.fetch_specs tracking) upstream = subst (λ (ts : List (List ℕ)). Contains ts upstream) r.1 (subst (λ (t : List ℕ). Contains l.sources t) v.0 source) in
      subst (λ (x : RemoteParts). spec.IsFollowed x.fetch_specs upstream tracking) v.1 (names-map l.remote.fetch_specs tracking upstream (λ s. is-said sections m.0 l.remote s r.0) there)

  among-by : (found : List Leading) → all_of (spec.leading_in sections tracking) (remote_names_of sections) ≡ Ok found → (b : Bool) → (if b then Err (AmbiguousRemotes (spec.names_told found)) else spec.upstream_at (find spec.is_single found)) ≡ Ok (Some (upstream, remote)) → Goal
  among-by found all true is = cc
  among-by found all false is = at-one found all (find spec.is_single found) refl is

  among : (r : Result (List Leading) Error) → all_of (spec.leading_in sections tracking) (remote_names_of sections) ≡ r → and_then r spec.upstream_among ≡ Ok (Some (upstream, remote)) → Goal
  unfolding spec.upstream_among
  among (Err e) all is = cc
  among (Ok found) all is = among-by found all (nat_lt 1 (length (spec.names_told found)) || list_any spec.is_ambiguous found) is

  tracking-by : (b : Bool) → (if b then and_then (all_of (spec.leading_in sections tracking) (remote_names_of sections)) spec.upstream_among else Err (BranchCategory tracking)) ≡ Ok (Some (upstream, remote)) → Goal
  tracking-by true is = among (all_of (spec.leading_in sections tracking) (remote_names_of sections)) refl is
  tracking-by false is = cc

  pub followed : spec.upstream_in sections tracking ≡ Ok (Some (upstream, remote)) → Goal
  unfolding spec.upstream_in
  followed is = tracking-by (spec.is_tracking_category (category_of tracking)) is
