-- A worker's edits are on names of its share.
use Rattle.std.proofs.Common.{◌≡◌, ℕ, List, [], ◌∷◌, ◌++◌, length, map, Option, Some, None, Ok, sym, ap, ◌∙◌, subst}
use Rattle.std.specs.Prelude.{slice_get}
use Rattle.std.specs.List.{Contains, filter_map}
use Rattle.std.specs.Option.{option_map}
use Rattle.std.proofs.lemmas.List.{append-nil}
use Rattle.fetch_base.specs.declared.id.Kind.{Kind}
use Rattle.fetch_specs.specs.Conflicts.{conflicts_of}
use Rattle.fetch_specs.specs.Matches.{mappings_of}
use Rattle.fetch_specs.specs.Specs.{Spec}
use Rattle.fetch_specs.specs.declared.conflict.Conflict.{Conflict}
use Rattle.fetch_specs.specs.declared.found.Match.{Match}
use Rattle.fetch_specs.specs.declared.tags.Tags.{Tags}
use Rattle.fetch_specs.specs.declared.tags.Tags.TheVariants as tags
use Rattle.fetch_lines.specs.References.{name_in}
use Rattle.fetch_lines.specs.declared.greetings.handshake.Handshake.{Handshake}
use Rattle.fetch_map.specs.declared.mapping.Mapping.{Mapping}
use Rattle.fetch_map.specs.declared.mapping.RefMap.{RefMap}
use Rattle.fetch_lines.specs.declared.listings.reference.Ref.{Ref}
use Rattle.fetch_lines.specs.declared.listings.reference.Source.{Source}
use Rattle.fetch_conversation.specs.ListStage.{LsRefsValue, ListedValue, all_specs, map_of, mapped, mapped_unless, with_tags}
use Rattle.fetch_conversation.specs.Mapped.{index_among, mapping_by, ref_mappings, taken_by}
use Rattle.fetch_mirror.specs.Shares.{AreOnce, AreOwnNames, as_itself}
use Rattle.fetch_mirror.proofs.EditsNamed.{IsNamedBy}
use Rattle.fetch_mirror.proofs.Listed.{IsMappedOnce}
use Rattle.fetch_mirror.proofs.Once.{once_at}
use Rattle.fetch_mirror.proofs.OwnMatches.{own_matches}
use Rattle.fetch_mirror.proofs.Places.{from}

-- a name of the share
pub record IsIn (names : List (List ℕ)) (name : List ℕ) : Type 0 where
  pub at : ℕ
  pub there : slice_get names at ≡ Some name

-- the destination of a mapping is that of its match
local_of : (remote : ℕ) (m : Match) (o : Option Source) (y : Mapping) → option_map (λ source. record { remote = source; local = m.rhs; spec_index = index_among remote m.spec_index }) o ≡ Some y → y.local ≡ m.rhs
local_of remote m None y is = absurd cc
local_of remote m (Some source) y is = let same : record { remote = source; local = m.rhs; spec_index = index_among remote m.spec_index } ≡ y = cc in sym (ap (λ (z : Mapping). z.local) same)

module _ (names : List (List ℕ)) (own : AreOwnNames names) (kind : Kind) (refs : List Ref) (once : AreOnce (map name_in refs)) where
  match_in : (m : Match) (name : List ℕ) → Contains (mappings_of (map as_itself names) (map name_in refs) kind) m → m.rhs ≡ Some name → IsIn names name
  match_in m name among is =
      let o = (own_matches names (map name_in refs) kind m own once).0 among in
      let same : o.name ≡ name = (let rhs = ap (λ (x : Match). x.rhs) o.is in cc) in
      record { at = m.spec_index; there = o.shared ∙ ap (λ (n : List ℕ). Some n) same }

  mapping_in : (remote i : ℕ) (y : Mapping) (name : List ℕ) → slice_get (filter_map (mapping_by remote refs) (mappings_of (map as_itself names) (map name_in refs) kind)) i ≡ Some y → y.local ≡ Some name → IsIn names name
  mapping_in remote i y name at is =
      let h = from (mapping_by remote refs) (mappings_of (map as_itself names) (map name_in refs) kind) i y at in
      match_in h.x name h.among (sym (local_of remote h.x (taken_by refs h.x.lhs h.x.item_index) y h.is) ∙ is)

  pub named_in : (remote : ℕ) (name : List ℕ) → IsNamedBy (ref_mappings remote (map as_itself names) kind refs) name → IsIn names name
  unfolding ref_mappings
  named_in remote name h = mapping_in remote h.at h.mapping name h.there h.local

-- what is mapped is the map of it
map_unless : (cs : List Conflict) (q : LsRefsValue) (h : Handshake) (refs : List Ref) (l : ListedValue) → mapped_unless cs q h refs ≡ Ok l → map_of q h refs ≡ l.ref_map
map_unless [] q h refs l is = let same : record { ref_map = map_of q h refs; handshake = h } ≡ l = cc in ap (λ (x : ListedValue). x.ref_map) same
map_unless (c ∷ cs) q h refs l is = absurd cc

pub map_is : (q : LsRefsValue) (h : Handshake) (refs : List Ref) (l : ListedValue) → mapped q h refs ≡ Ok l → map_of q h refs ≡ l.ref_map
unfolding mapped
map_is q h refs l is = map_unless (conflicts_of (mappings_of (all_specs q) (map name_in refs) h.object_hash)) q h refs l is

-- the names of a listing, as it is mapped
pub listed_once : (q : LsRefsValue) (l : ListedValue) → IsMappedOnce q l → AreOnce (map name_in l.ref_map.remote_refs)
listed_once q l h = subst (λ (refs : List Ref). AreOnce (map name_in refs)) (ap (λ (m : RefMap). m.remote_refs) (map_is q h.handshake h.refs l h.is)) (once_at (map name_in h.refs) h.once)

-- the destinations of a listing that is asked for a share
pub share_named : (names : List (List ℕ)) → AreOwnNames names → (q : LsRefsValue) (l : ListedValue) → q.specs ≡ map as_itself names → q.tags ≡ tags.None → q.options.extra_refspecs ≡ [] → IsMappedOnce q l
    → (name : List ℕ) → IsNamedBy l.ref_map.mappings name → IsIn names name
share_named names own q l specs_are none extra h name is =
    let shown : map_of q h.handshake h.refs ≡ l.ref_map = map_is q h.handshake h.refs l h.is in
    let all : all_specs q ≡ map as_itself names = all_so q.specs q.tags q.options.extra_refspecs specs_are none extra in
    named_in names own h.handshake.object_hash h.refs (once_at (map name_in h.refs) h.once) (length q.specs) name
    (subst (λ (specs : List Spec). IsNamedBy (ref_mappings (length q.specs) specs h.handshake.object_hash h.refs) name) all (subst (λ (ms : List Mapping). IsNamedBy ms name) (ap (λ (m : RefMap). m.mappings) (sym shown)) is))
  where
    all_so : (specs : List Spec) (t : Tags) (more : List Spec) → specs ≡ map as_itself names → t ≡ tags.None → more ≡ [] → specs ++ with_tags t more ≡ map as_itself names
    all_so specs t more a b c = ap (λ (x : List Spec). x ++ with_tags t more) a ∙ ap (λ (x : Tags). map as_itself names ++ with_tags x more) b ∙ ap (λ (x : List Spec). map as_itself names ++ x) c ∙ append-nil (map as_itself names)
