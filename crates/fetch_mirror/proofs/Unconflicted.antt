-- Names that are mapped to themselves aren't in conflict.
use Rattle.std.proofs.Common.{◌≡◌, ℕ, zero, suc, true, false, cond, ◌||◌, List, [], ◌∷◌, ◌++◌, map, Option, Some, None, Ok, refl, sym, ap, subst, ◌∙◌, codes, Contains}
use Rattle.std.specs.Prelude.{is_some, slice_get, option_and_then}
use Rattle.std.proofs.lemmas.Slice.Eq.{bytes_eq-Decides}
use Rattle.fetch_base.specs.declared.id.Kind.{Kind}
use Rattle.fetch_base.specs.declared.id.ObjectId.{ObjectId}
use Rattle.fetch_store.proofs.Members.{first_in}
use Rattle.fetch_specs.specs.Categories.{refs}
use Rattle.fetch_specs.specs.Conflicts.{conflicts_of, is_same_source, IsConflict}
use Rattle.fetch_specs.specs.Made.{mapping_at}
use Rattle.fetch_specs.specs.Matches.{between, completed, id_mapping, id_match, is_excluded, mapping_unless, mappings_of, name_match, short_heads, short_tags, short_remotes, source_key, taken}
use Rattle.fetch_specs.specs.Parses.{id_named}
use Rattle.fetch_specs.specs.declared.conflict.Conflict.{Conflict}
use Rattle.fetch_specs.specs.declared.found.Match.{Match}
use Rattle.fetch_specs.specs.declared.found.SourceRef.TheVariants as sources
use Rattle.fetch_specs.proofs.Between.{between_stands}
use Rattle.fetch_specs.proofs.Doubles.{each_conflict}
use Rattle.fetch_specs.proofs.Places.{each_mapping}
use Rattle.fetch_lines.specs.References.{name_in}
use Rattle.fetch_lines.specs.declared.greetings.handshake.Handshake.{Handshake}
use Rattle.fetch_lines.specs.declared.listings.reference.Ref.{Ref}
use Rattle.fetch_conversation.specs.ListStage.{LsRefsValue, all_specs, map_of, mapped, mapped_unless}
use Rattle.fetch_mirror.specs.Naming.{everything, inquiry_by}
use Rattle.fetch_mirror.specs.Shares.{AreOnce, AreOwnNames, as_itself}
use Rattle.fetch_mirror.proofs.OwnMatches.{own_matches}

-- a match of a name with itself
pub record IsSelf (m : Match) : Type 0 where
  pub name : List ℕ
  pub source : m.lhs ≡ sources.FullName name
  pub destination : m.rhs ≡ Some name

same_some : (a b : List ℕ) → ◌≡◌ {A = Option (List ℕ)} (Some a) (Some b) → a ≡ b
same_some a b is = cc

-- no destination of such matches has two sources
one_source : (ms : List Match) → ((m : Match) → Contains ms m → IsSelf m) → (c : Conflict) → IsConflict ms c → ⊥
one_source ms selves c h =
    let a = selves h.one h.first in
    let b = selves h.two h.second in
    let same : a.name ≡ b.name = same_some a.name b.name (sym a.destination ∙ h.leads ∙ sym h.leads_too ∙ b.destination) in
    let keys : source_key h.one.lhs ≡ source_key h.two.lhs = ap source_key a.source ∙ ap (λ (n : List ℕ). 0 ∷ n) same ∙ sym (ap source_key b.source) in
    let yes : is_same_source h.one.lhs h.two.lhs ≡ true = (bytes_eq-Decides (source_key h.one.lhs) (source_key h.two.lhs)).1 keys in
    let wrong : true ≡ false = sym yes ∙ h.differ in
    absurd cc

pub unconflicted : (ms : List Match) → ((m : Match) → Contains ms m → IsSelf m) → conflicts_of ms ≡ []
unconflicted ms selves = by (conflicts_of ms) refl
  where
    by : (cs : List Conflict) → conflicts_of ms ≡ cs → conflicts_of ms ≡ []
    by [] is = is
    by (c ∷ cs) is = absurd (one_source ms selves c ((each_conflict ms c).0 (subst (λ (l : List Conflict). Contains l c) (sym is) (first_in c cs))))

-- so they are mapped
pub maps_selves : (q : LsRefsValue) (h : Handshake) (listed : List Ref) → ((m : Match) → Contains (mappings_of (all_specs q) (map name_in listed) h.object_hash) m → IsSelf m)
    → mapped q h listed ≡ Ok (record { ref_map = map_of q h listed; handshake = h })
unfolding mapped
maps_selves q h listed selves = ap (λ (cs : List Conflict). mapped_unless cs q h listed) (unconflicted (mappings_of (all_specs q) (map name_in listed) h.object_hash) selves)

-- ---- every name under `refs/`, as itself

abbrev all : List ℕ
all = refs ++ codes "*"

taken_between : (name : List ℕ) → taken all name ≡ between refs [] name
unfolding refs
taken_between name = refl

no_id : id_named all ≡ None
unfolding id_named refs
no_id = refl

whole_name : (middle : List ℕ) → completed (refs ++ middle ++ []) ≡ refs ++ (middle ++ [])
unfolding refs short_heads short_tags short_remotes
whole_name middle = refl

self_by : (kind : Kind) (listed : List (List ℕ)) (j : ℕ) (name : List ℕ) (m : Match) (middle : Option (List ℕ)) → between refs [] name ≡ middle → mapping_unless false 0 everything j name middle ≡ Some m → IsSelf m
unfolding refs short_heads short_tags short_remotes
self_by kind listed j name m None is made = absurd cc
self_by kind listed j name m (Some middle) is made =
    let stands : name ≡ refs ++ (middle ++ []) = between_stands refs [] name middle is in
    let it : record { lhs = sources.FullName name; rhs = Some (refs ++ (middle ++ [])); item_index = Some j; spec_index = 0 } ≡ m = (let some = sym (ap (λ (o : Option ObjectId). cond (is_some o || false) None (Some (record { lhs = sources.FullName name; rhs = Some (refs ++ (middle ++ [])); item_index = Some j; spec_index = 0 }))) no_id) ∙ made in cc) in
    record { name = name; source = sym (ap (λ (x : Match). x.lhs) it); destination = sym (ap (λ (x : Match). x.rhs) it) ∙ ap (λ (n : List ℕ). Some n) (sym stands) }

made_self : (kind : Kind) (listed : List (List ℕ)) (i j : ℕ) (m : Match) (o : Option (List ℕ)) → slice_get listed j ≡ o
    → option_and_then (λ spec. option_and_then (λ name. name_match (everything ∷ []) i spec j name) (slice_get listed j)) (slice_get (everything ∷ []) i) ≡ Some m → IsSelf m
made_self kind listed zero j m None at made = absurd (let none = sym made ∙ ap (option_and_then (λ name. name_match (everything ∷ []) 0 everything j name)) at in cc)
made_self kind listed zero j m (Some name) at made =
    let named = sym (ap (option_and_then (λ name. name_match (everything ∷ []) 0 everything j name)) at) ∙ made in
    self_by kind listed j name m (between refs [] name) refl (sym (ap (mapping_unless (is_excluded (everything ∷ []) name) 0 everything j name) (taken_between name)) ∙ named)
made_self kind listed (suc i) j m o at made = absurd cc

id_self : (kind : Kind) (i : ℕ) (m : Match) → option_and_then (λ spec. id_match kind i spec) (slice_get (everything ∷ []) i) ≡ Some m → IsSelf m
id_self kind zero m made = absurd (let none = sym made ∙ ap (id_mapping kind 0 everything) no_id in cc)
id_self kind (suc i) m made = absurd cc

at_self : (kind : Kind) (listed : List (List ℕ)) (i : ℕ) (item : Option ℕ) (m : Match) → mapping_at (everything ∷ []) listed kind i item ≡ Some m → IsSelf m
at_self kind listed i None m made = id_self kind i m made
at_self kind listed i (Some j) m made = made_self kind listed i j m (slice_get listed j) refl made

pub all_selves : (kind : Kind) (listed : List (List ℕ)) (m : Match) → Contains (mappings_of (everything ∷ []) listed kind) m → IsSelf m
all_selves kind listed m there = at_self kind listed m.spec_index m.item_index m ((each_mapping (everything ∷ []) listed kind m).0 there).0

-- Whatever is listed, all of it is mapped.
pub all_mapped : (bound : ℕ) (h : Handshake) (listed : List Ref) → mapped (inquiry_by bound) h listed ≡ Ok (record { ref_map = map_of (inquiry_by bound) h listed; handshake = h })
all_mapped bound h listed = maps_selves (inquiry_by bound) h listed (λ m there. all_selves h.object_hash (map name_in listed) m there)

-- ---- the names of a share, as themselves

pub own_selves : (names listed : List (List ℕ)) (kind : Kind) → AreOwnNames names → AreOnce listed → (m : Match) → Contains (mappings_of (map as_itself names) listed kind) m → IsSelf m
own_selves names listed kind own once m there =
    let o = (own_matches names listed kind m own once).0 there in
    record { name = o.name; source = ap (λ (x : Match). x.lhs) o.is; destination = ap (λ (x : Match). x.rhs) o.is }

pub share_unconflicted : (names listed : List (List ℕ)) (kind : Kind) → AreOwnNames names → AreOnce listed → conflicts_of (mappings_of (map as_itself names) listed kind) ≡ []
share_unconflicted names listed kind own once = unconflicted (mappings_of (map as_itself names) listed kind) (own_selves names listed kind own once)
