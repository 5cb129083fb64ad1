-- What a listing that is asked for a share maps: each name of it that is listed, to itself, and nothing else.
use Rattle.std.proofs.Common.{◌≡◌, ℕ, zero, suc, ◌<◌, ◌-◌, Bool, true, List, [], ◌∷◌, length, map, Option, Some, None, Ok, refl, sym, ap, ◌∙◌, subst, arith, Contains}
use Rattle.std.specs.Prelude.{nat_lt, slice_get, if◌then◌else◌}
use Rattle.std.specs.List.{cons_option, filter_map}
use Rattle.std.specs.Option.{option_map}
use Rattle.std.proofs.lemmas.Bool.Decides.{nat_tests}
use Rattle.std.proofs.lemmas.List.{length-map}
use Rattle.std.proofs.lemmas.Option.{slice_get_within}
use Rattle.fetch_base.specs.declared.id.Kind.{Kind}
use Rattle.fetch_store.proofs.Members.{first_in, later_in}
use Rattle.fetch_specs.specs.Conflicts.{conflicts_of}
use Rattle.fetch_specs.specs.Matches.{leading, mappings_of}
use Rattle.fetch_specs.specs.Specs.{Spec}
use Rattle.fetch_specs.specs.declared.conflict.Conflict.{Conflict}
use Rattle.fetch_specs.specs.declared.found.Match.{Match}
use Rattle.fetch_lines.specs.References.{name_in}
use Rattle.fetch_lines.specs.declared.greetings.handshake.Handshake.{Handshake}
use Rattle.fetch_map.specs.declared.mapping.Mapping.{Mapping}
use Rattle.fetch_map.specs.declared.mapping.RefMap.{RefMap}
use Rattle.fetch_map.specs.declared.mapping.SpecIndex.TheVariants.{ExplicitInRemote, Implicit}
use Rattle.fetch_lines.specs.declared.listings.reference.Ref.{Ref}
use Rattle.fetch_lines.specs.declared.listings.reference.Source.{Source}
use Rattle.fetch_lines.specs.declared.listings.reference.Source.TheVariants as sources
use Rattle.fetch_conversation.specs.ListStage.{LsRefsValue, ListedValue, all_specs, map_of, mapped, mapped_unless}
use Rattle.fetch_conversation.specs.Mapped.{index_among, mapping_by, ref_mappings}
use Rattle.fetch_serve.proofs.Lists.{from_one}
use Rattle.fetch_mirror.specs.Shares.{AreOnce, AreOwnNames, IsOwnMatch, as_itself}
use Rattle.fetch_mirror.proofs.OwnMatches.{own_matches}
use Rattle.fetch_mirror.proofs.OwnNames.{map_is}
use Rattle.fetch_mirror.proofs.Places.{at_contains, mapped_at, unmapped}

-- a mapping of a reference that is listed to its own name, by the refspec of the name
pub record IsOwnMapping (names : List (List ℕ)) (refs : List Ref) (m : Mapping) : Type 0 where
  pub name : List ℕ
  pub index : ℕ
  pub shared : slice_get names index ≡ Some name
  pub item : ℕ
  pub reference : Ref
  pub told : slice_get refs item ≡ Some reference
  pub named : name_in reference ≡ name
  pub remote : m.remote ≡ sources.Ref reference
  pub local : m.local ≡ Some name
  pub spec : m.spec_index ≡ ExplicitInRemote index

-- what one of a list gives is among what all give
pub kept_at : {X Y : Type 0} (f : X → Option Y) (xs : List X) (k : ℕ) (x : X) (y : Y) → slice_get xs k ≡ Some x → f x ≡ Some y → Contains (filter_map f xs) y
kept_at f [] k x y at is = absurd cc
kept_at {X} {Y} f (z ∷ xs) zero x y at is =
    let same : z ≡ x = cc in
    subst (λ (o : Option Y). Contains (cons_option o (filter_map f xs)) y) (sym (ap f same ∙ is)) (first_in y (filter_map f xs))
kept_at {X} {Y} f (z ∷ xs) (suc k) x y at is = by (f z) (kept_at f xs k x y at is)
  where
    by : (o : Option Y) → Contains (filter_map f xs) y → Contains (cons_option o (filter_map f xs)) y
    by None h = h
    by (Some w) h = later_in y w (filter_map f xs) h

pub kept_in : {X Y : Type 0} (f : X → Option Y) (xs : List X) (x : X) (y : Y) → Contains xs x → f x ≡ Some y → Contains (filter_map f xs) y
kept_in f xs x y among is = let at = at_contains xs x among in kept_at f xs at.0 x y at.1 is

below : (i n : ℕ) → i < n → nat_lt i n ≡ true
below i n h = grind (arith, nat_tests)

-- a refspec of the remote
explicit : (remote index : ℕ) → index < remote → index_among remote index ≡ ExplicitInRemote index
explicit remote index low = ap (λ (b : Bool). if b then ExplicitInRemote index else Implicit (index - remote)) (below index remote low)

module _ (names : List (List ℕ)) (own : AreOwnNames names) (kind : Kind) (refs : List Ref) (once : AreOnce (map name_in refs)) where
  abbrev matches : List Match
  matches = mappings_of (map as_itself names) (map name_in refs) kind

  -- the mapping of a name at this place, which is listed there
  abbrev made : ℕ → List ℕ → Ref → Mapping
  made index name reference = record { remote = sources.Ref reference; local = Some name; spec_index = index_among (length names) index }

  made_so : (index item : ℕ) (name : List ℕ) (reference : Ref) → slice_get refs item ≡ Some reference → mapping_by (length names) refs (leading index item name name) ≡ Some (made index name reference)
  made_so index item name reference told =
      ap (λ (o : Option Ref). option_map (λ (source : Source). record { remote = source; local = Some name; spec_index = index_among (length names) index }) (option_map sources.Ref o)) told

  own_by : (m : Match) (y : Mapping) → Contains matches m → mapping_by (length names) refs m ≡ Some y → IsOwnMapping names refs y
  own_by m y among is =
      let o = (own_matches names (map name_in refs) kind m own once).0 among in
      let u = unmapped name_in refs o.item o.name o.told in
      let it : Some (made m.spec_index o.name u.0) ≡ Some y = sym (made_so m.spec_index o.item o.name u.0 u.1) ∙ sym (ap (mapping_by (length names) refs) o.is) ∙ is in
      let same : made m.spec_index o.name u.0 ≡ y = cc in
      let low : m.spec_index < length names = slice_get_within names m.spec_index o.name o.shared in
      record {
        name = o.name;
        index = m.spec_index;
        shared = o.shared;
        item = o.item;
        reference = u.0;
        told = u.1;
        named = u.2;
        remote = sym (ap (λ (x : Mapping). x.remote) same);
        local = sym (ap (λ (x : Mapping). x.local) same);
        spec = sym (ap (λ (x : Mapping). x.spec_index) same) ∙ explicit (length names) m.spec_index low;
      }

  pub each_own : (y : Mapping) → Contains (ref_mappings (length names) (map as_itself names) kind refs) y → IsOwnMapping names refs y
  unfolding ref_mappings
  each_own y among = let f = from_one (mapping_by (length names) refs) y matches among in own_by f.0 y f.1 f.2

  -- each name that is listed has its mapping
  pub one_of_each : (index item : ℕ) (name : List ℕ) (reference : Ref) → slice_get names index ≡ Some name → slice_get refs item ≡ Some reference → name_in reference ≡ name
      → (y : Mapping) × Contains (ref_mappings (length names) (map as_itself names) kind refs) y × (y.local ≡ Some name)
  unfolding ref_mappings
  one_of_each index item name reference shared told named =
      let m = leading index item name name in
      let at : slice_get (map name_in refs) item ≡ Some name = mapped_at name_in refs item reference told ∙ ap (λ (n : List ℕ). Some n) named in
      let is_own : IsOwnMatch names (map name_in refs) m = record { name = name; item = item; shared = shared; told = at; is = refl } in
      (made index name reference, kept_in (mapping_by (length names) refs) matches m (made index name reference) ((own_matches names (map name_in refs) kind m own once).1 is_own) (made_so index item name reference told), refl)

-- ---- what was mapped

-- what is mapped tells the greeting
greeted_unless : (cs : List Conflict) (q : LsRefsValue) (h : Handshake) (refs : List Ref) (l : ListedValue) → mapped_unless cs q h refs ≡ Ok l → h ≡ l.handshake
greeted_unless [] q h refs l is = let same : record { ref_map = map_of q h refs; handshake = h } ≡ l = cc in ap (λ (x : ListedValue). x.handshake) same
greeted_unless (c ∷ cs) q h refs l is = absurd cc

pub greeted_is : (q : LsRefsValue) (h : Handshake) (refs : List Ref) (l : ListedValue) → mapped q h refs ≡ Ok l → h ≡ l.handshake
unfolding mapped
greeted_is q h refs l is = greeted_unless (conflicts_of (mappings_of (all_specs q) (map name_in refs) h.object_hash)) q h refs l is

module _ (names : List (List ℕ)) (q : LsRefsValue) (specs_are : q.specs ≡ map as_itself names) (all_are : all_specs q ≡ map as_itself names) where
  -- the mappings of a share
  pub mappings_are : (h : Handshake) (refs : List Ref) (l : ListedValue) → mapped q h refs ≡ Ok l → l.ref_map.mappings ≡ ref_mappings (length names) (map as_itself names) h.object_hash refs
  mappings_are h refs l is =
      sym (ap (λ (m : RefMap). m.mappings) (map_is q h refs l is))
      ∙ ap (λ (specs : List Spec). ref_mappings (length q.specs) specs h.object_hash refs) all_are
      ∙ ap (λ (specs : List Spec). ref_mappings (length specs) (map as_itself names) h.object_hash refs) specs_are
      ∙ ap (λ (n : ℕ). ref_mappings n (map as_itself names) h.object_hash refs) (length-map names as_itself)
