-- Each match is mapped, by a refspec that is found.
use Rattle.std.proofs.Common.{◌≡◌, ℕ, zero, suc, ◌+◌, ◌<◌, ◌≤◌, Bool, true, false, cond, List, [], ◌∷◌, ◌++◌, map, length, filter, Option, Some, None, refl, sym, ap, ◌∙◌, subst, arith, Contains, length-append}
use Rattle.std.specs.Prelude.{⊤, ◌-◌, nat_lt, is_some, slice_get, option_and_then, if◌then◌else◌}
use Rattle.std.specs.List.{AllByRecursion, filter_map, cons_option, range_with_len}
use Rattle.std.specs.Option.{option_map}
use Rattle.std.proofs.lemmas.Bool.{ltb-true, ltb-false}
use Rattle.std.proofs.lemmas.Option.{slice_get-get_or, slice_get-map, slice_get_within}
use Rattle.fetch_base.specs.declared.id.Kind.{Kind}
use Rattle.fetch_base.specs.declared.id.ObjectId.{ObjectId}
use Rattle.fetch_specs.specs.Made.{IsMapping, mapping_at}
use Rattle.fetch_specs.specs.Matches.{id_mapping, id_match, is_excluded, mapping_unless, mappings_of, name_match, source_id, source_taken}
use Rattle.fetch_specs.specs.Specs.{Spec}
use Rattle.fetch_specs.specs.declared.found.Match.{Match}
use Rattle.fetch_specs.specs.declared.found.SourceRef.{SourceRef}
use Rattle.fetch_specs.specs.declared.found.SourceRef.TheVariants as matched
use Rattle.fetch_specs.proofs.Places.{each_mapping}
use Rattle.fetch_map.specs.Mappings.{spec_at}
use Rattle.fetch_lines.specs.References.{name_in}
use Rattle.fetch_map.specs.declared.mapping.Mapping.{Mapping}
use Rattle.fetch_map.specs.declared.mapping.RefMap.{RefMap}
use Rattle.fetch_map.specs.declared.mapping.SpecIndex.TheVariants.{ExplicitInRemote, Implicit}
use Rattle.fetch_lines.specs.declared.listings.reference.Ref.{Ref}
use Rattle.fetch_lines.specs.declared.listings.reference.Source.{Source}
use Rattle.fetch_lines.specs.declared.listings.reference.Source.TheVariants as sources
use Rattle.fetch_update.specs.Accepted.{is_found}
use Rattle.fetch_conversation.specs.ListStage.{LsRefsValue, ListedValue, extra_specs}
use Rattle.fetch_conversation.specs.Mapped.{index_among, mapping_by, ref_mappings, taken_by}
use Rattle.fetch_remote.specs.Mapped.{MapsEach, matched_of}
use Rattle.fetch_remote.proofs.Received.{IsMapped}
use Rattle.fetch_remote.proofs.Wanted.{first_in, later_in}

-- ---- a match, by its refspec and its item

-- its source is the name of its item, or an id
abbrev TakesOf : List (List ℕ) → SourceRef → Option ℕ → Type 0
TakesOf names (matched.ObjectId id) index = ⊤
TakesOf names (matched.FullName name) None = ⊥
TakesOf names (matched.FullName name) (Some j) = slice_get names j ≡ Some name

record Made (specs : List Spec) (names : List (List ℕ)) (m : Match) : Type 0 where
  spec : Spec
  of_spec : slice_get specs m.spec_index ≡ Some spec
  takes : TakesOf names m.lhs m.item_index

abbrev Takes : List (List ℕ) → Match → Type 0
Takes names m = TakesOf names m.lhs m.item_index

unless_tested : (b : Bool) (x m : Match) → (if b then None else Some x) ≡ Some m → x ≡ m
unless_tested true x m is = absurd (cc)
unless_tested false x m is = cc

takes_id : (names : List (List ℕ)) (kind : Kind) (i : ℕ) (spec : Spec) (id : Option ObjectId) (m : Match) → id_mapping kind i spec id ≡ Some m → Takes names m
takes_id names kind i spec None m is = absurd (cc)
takes_id names kind i spec (Some id) m is = subst (Takes names) (unless_tested _ _ m is) tt

takes_name : (names : List (List ℕ)) (excluded : Bool) (i : ℕ) (spec : Spec) (j : ℕ) (name : List ℕ) (middle : Option (List ℕ)) (m : Match) → slice_get names j ≡ Some name → mapping_unless excluded i spec j name middle ≡ Some m → Takes names m
takes_name names excluded i spec j name None m there is = absurd (cc)
takes_name names excluded i spec j name (Some middle) m there is = subst (Takes names) (unless_tested _ _ m is) there

made : (specs : List Spec) (names : List (List ℕ)) (kind : Kind) (m : Match) → IsMapping specs names kind m → Made specs names m
made specs names kind m is = by m.item_index is
  where
    by_id : (found : Option Spec) → slice_get specs m.spec_index ≡ found → option_and_then (λ spec. id_match kind m.spec_index spec) found ≡ Some m → Made specs names m
    by_id None of_spec h = absurd (cc)
    by_id (Some spec) of_spec h = record { spec = spec; of_spec = of_spec; takes = takes_id names kind m.spec_index spec (source_id spec.source) m h }

    by_item : (j : ℕ) (spec : Spec) → slice_get specs m.spec_index ≡ Some spec → (item : Option (List ℕ)) → slice_get names j ≡ item → option_and_then (λ name. name_match specs m.spec_index spec j name) item ≡ Some m → Made specs names m
    by_item j spec of_spec None there h = absurd (cc)
    by_item j spec of_spec (Some name) there h =
        record { spec = spec; of_spec = of_spec; takes = takes_name names (is_excluded specs name) m.spec_index spec j name (source_taken spec.source name) m there h }

    by_name : (j : ℕ) (found : Option Spec) → slice_get specs m.spec_index ≡ found → option_and_then (λ spec. option_and_then (λ name. name_match specs m.spec_index spec j name) (slice_get names j)) found ≡ Some m → Made specs names m
    by_name j None of_spec h = absurd (cc)
    by_name j (Some spec) of_spec h = by_item j spec of_spec (slice_get names j) refl h

    by : (index : Option ℕ) → mapping_at specs names kind m.spec_index index ≡ Some m → Made specs names m
    by None h = by_id (slice_get specs m.spec_index) refl h
    by (Some j) h = by_name j (slice_get specs m.spec_index) refl h

-- ---- what it takes of a listing

record Taken (refs : List Ref) (lhs : SourceRef) (index : Option ℕ) : Type 0 where
  source : Source
  is : taken_by refs lhs index ≡ Some source
  same : matched_of source ≡ lhs

taken : (refs : List Ref) (lhs : SourceRef) (index : Option ℕ) → TakesOf (map name_in refs) lhs index → Taken refs lhs index
taken refs (matched.ObjectId id) index h = record { source = sources.ObjectId id; is = refl; same = refl }
taken refs (matched.FullName name) None h = absurd h
taken refs (matched.FullName name) (Some j) h = by (slice_get refs j) refl (sym (slice_get-map name_in refs j) ∙ h)
  where
    by : (o : Option Ref) → slice_get refs j ≡ o → option_map name_in o ≡ Some name → Taken refs (matched.FullName name) (Some j)
    by None is named = absurd (cc)
    by (Some reference) is named =
        let same : name_in reference ≡ name = cc in
        record { source = sources.Ref reference; is = ap (option_map sources.Ref) is; same = ap matched.FullName same }

abbrev mapping_of : ℕ → Match → Source → Mapping
mapping_of remote m source = record { remote = source; local = m.rhs; spec_index = index_among remote m.spec_index }

-- ---- all of them

maps_each : (remote : ℕ) (refs : List Ref) (ms : List Match) → ((m : Match) → Contains ms m → Takes (map name_in refs) m) → MapsEach remote ms (filter_map (mapping_by remote refs) ms)
maps_each remote refs [] each = record { sources = refl; destinations = refl; refspecs = refl }
maps_each remote refs (m ∷ ms) each =
    let t = taken refs m.lhs m.item_index (each m (first_in m ms)) in
    let rest = maps_each remote refs ms (λ x c. each x (later_in x m ms c)) in
    let is : mapping_by remote refs m ≡ Some (mapping_of remote m t.source) = ap (option_map (mapping_of remote m)) t.is in
    subst (λ (o : Option Mapping). MapsEach remote (m ∷ ms) (cons_option o (filter_map (mapping_by remote refs) ms))) (sym is) (record {
      sources = ap (λ (x : SourceRef). x ∷ map (λ y. matched_of y.remote) (filter_map (mapping_by remote refs) ms)) t.same ∙ ap (λ (l : List SourceRef). m.lhs ∷ l) rest.sources;
      destinations = ap (λ (l : List (Option (List ℕ))). m.rhs ∷ l) rest.destinations;
      refspecs = ap (λ l. index_among remote m.spec_index ∷ l) rest.refspecs;
    })

each_made : (specs : List Spec) (names : List (List ℕ)) (kind : Kind) (m : Match) → Contains (mappings_of specs names kind) m → Made specs names m
each_made specs names kind m among = made specs names kind m ((each_mapping specs names kind m).0 among).0

pub every_match : (remote : ℕ) (specs : List Spec) (kind : Kind) (refs : List Ref) → MapsEach remote (mappings_of specs (map name_in refs) kind) (ref_mappings remote specs kind refs)
unfolding ref_mappings
every_match remote specs kind refs = maps_each remote refs (mappings_of specs (map name_in refs) kind) (λ m among. (each_made specs (map name_in refs) kind m among).takes)

-- ---- their refspecs

within : {X : Type 0} (xs : List X) (k : ℕ) → k < length xs → is_some (slice_get xs k) ≡ true
within [] k lt = absurd (omega arith)
within (x ∷ xs) k lt = ap is_some (slice_get-get_or (x ∷ xs) k x lt)

spec_found : (own extra : List Spec) (k : ℕ) → k < length (own ++ extra) → is_some (spec_at (index_among (length own) k) own extra) ≡ true
spec_found own extra k lt = by (nat_lt k (length own)) refl
  where
    by : (b : Bool) → nat_lt k (length own) ≡ b → is_some (spec_at (if b then ExplicitInRemote k else Implicit (k - length own)) own extra) ≡ true
    by true less = within own k (ltb-true k (length own) less)
    by false more =
        let over : length own ≤ k = ltb-false k (length own) more in
        within extra (k - length own) (omega (arith, over, lt, length-append own extra))

abbrev IsFoundIn : List Spec → List Spec → Mapping → Type 0
IsFoundIn own extra m = is_some (spec_at m.spec_index own extra) ≡ true

all_found : (own extra : List Spec) (names : List (List ℕ)) (refs : List Ref) (ms : List Match) → ((m : Match) → Contains ms m → Made (own ++ extra) names m) → AllByRecursion (IsFoundIn own extra) (filter_map (mapping_by (length own) refs) ms)
all_found own extra names refs [] each = tt
all_found own extra names refs (m ∷ ms) each = by (mapping_by (length own) refs m) refl (all_found own extra names refs ms (λ x c. each x (later_in x m ms c)))
  where
    indexed : (source : Option Source) (x : Mapping) → option_map (mapping_of (length own) m) source ≡ Some x → x.spec_index ≡ index_among (length own) m.spec_index
    indexed None x is = absurd (cc)
    indexed (Some source) x is = let e : mapping_of (length own) m source ≡ x = cc in sym (ap (λ (y : Mapping). y.spec_index) e)

    by : (o : Option Mapping) → mapping_by (length own) refs m ≡ o → AllByRecursion (IsFoundIn own extra) (filter_map (mapping_by (length own) refs) ms) → AllByRecursion (IsFoundIn own extra) (cons_option o (filter_map (mapping_by (length own) refs) ms))
    by None is rest = rest
    by (Some x) is rest =
        let k = each m (first_in m ms) in
        let lt : m.spec_index < length (own ++ extra) = slice_get_within (own ++ extra) m.spec_index k.spec k.of_spec in
        (subst (λ i. is_some (spec_at i own extra) ≡ true) (sym (indexed (taken_by refs m.lhs m.item_index) x is)) (spec_found own extra m.spec_index lt), rest)

found_at : (own extra : List Spec) (ms : List Mapping) → AllByRecursion (IsFoundIn own extra) ms → (i : ℕ) → i < length ms → is_found own extra ms i ≡ true
found_at own extra [] all i lt = absurd (omega arith)
found_at own extra (m ∷ ms) all zero lt = all.0
found_at own extra (m ∷ ms) all (suc i) lt = found_at own extra ms all.1 i (omega arith)

keep_all : (p : ℕ → Bool) (a n : ℕ) → ((i : ℕ) → a ≤ i → i < a + n → p i ≡ true) → filter p (range_with_len a n) ≡ range_with_len a n
keep_all p a zero each = refl
keep_all p a (suc n) each =
    ap (λ (b : Bool). cond b (a ∷ filter p (range_with_len (a + 1) n)) (filter p (range_with_len (a + 1) n))) (each a (omega arith) (omega arith))
    ∙ ap (λ (l : List ℕ). a ∷ l) (keep_all p (a + 1) n (λ i more less. each i (omega (arith, more)) (omega (arith, less))))

abbrev AllFound : List Spec → List Spec → List Mapping → Type 0
AllFound own extra ms = filter (is_found own extra ms) (range_with_len 0 (length ms)) ≡ range_with_len 0 (length ms)

every_refspec : (own extra : List Spec) (kind : Kind) (refs : List Ref) → AllFound own extra (ref_mappings (length own) (own ++ extra) kind refs)
unfolding ref_mappings
every_refspec own extra kind refs =
    let all = all_found own extra (map name_in refs) refs (mappings_of (own ++ extra) (map name_in refs) kind) (each_made (own ++ extra) (map name_in refs) kind) in
    keep_all _ 0 _ (λ i more less. found_at own extra _ all i (omega (arith, less)))

-- what was listed has a refspec for each mapping
pub each_found : (q : LsRefsValue) (l : ListedValue) → IsMapped q l → AllFound l.ref_map.refspecs l.ref_map.extra_refspecs l.ref_map.mappings
each_found q l h = subst (λ (m : RefMap). AllFound m.refspecs m.extra_refspecs m.mappings) (sym h.map) (every_refspec q.specs (extra_specs q) l.handshake.object_hash l.ref_map.remote_refs)
