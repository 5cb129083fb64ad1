-- Which names a list of refspecs maps, and where to.
use Rattle.std.specs.Prelude.{ℕ, ◌+◌, ◌-◌, ◌==◌, nat_eq, nat_le, Bool, true, false, not, ◌&&◌, ◌||◌, if◌then◌else◌, List, [], ◌∷◌, ◌++◌}
use Rattle.std.specs.Prelude.{length, take, drop, map, filter, codes, Option, Some, None, is_some, option_and_then}
use Rattle.std.specs.List.{list_any, filter_map, starts_with, ends_with, before_first, after_first}
use Rattle.std.specs.Option.{option_map}
use Rattle.std.specs.declared.cmp.Ordering.{Ordering}
use Rattle.std.specs.Ordering.{nat_cmp, ordering_then}
use Rattle.std.specs.Cmp.Lexicographic.{slice_cmp}
use Rattle.std.specs.Str.{bytes_eq}
use Rattle.fetch_base.specs.Id.{bytes_of}
use Rattle.fetch_base.specs.declared.id.Kind.{Kind}
use Rattle.fetch_base.specs.declared.id.Kind.TheVariants as kinds
use Rattle.fetch_base.specs.declared.id.ObjectId.{ObjectId}
use Rattle.fetch_base.specs.declared.id.ObjectId.TheVariants as ids
use Rattle.fetch_specs.specs.declared.operation.Mode.{Mode}
use Rattle.fetch_specs.specs.declared.operation.Mode.TheVariants.{Normal, Force, Exclusion}
use Rattle.fetch_specs.specs.declared.found.SourceRef.{SourceRef}
use Rattle.fetch_specs.specs.declared.found.SourceRef.TheVariants as sources
use Rattle.fetch_specs.specs.declared.found.Match.{Match}
use Rattle.fetch_specs.specs.Categories.{refs, tags, heads, remotes}
use Rattle.fetch_specs.specs.Parses.{head, id_named}
use Rattle.fetch_specs.specs.Specs.{Spec}

-- what a short name of a remote gets at its end
unfoldable pub slash_head : List ℕ
slash_head = codes "/HEAD"

-- what a short name of a branch may begin with
unfoldable pub short_heads : List ℕ
short_heads = codes "heads/"

-- what a short name of a tag may begin with
unfoldable pub short_tags : List ℕ
short_tags = codes "tags/"

-- what a short name of a remote-tracking branch may begin with
unfoldable pub short_remotes : List ℕ
short_remotes = codes "remotes/"

-- whether a text has a star
abbrev pub has_star : List ℕ → Bool
has_star text = list_any (λ b. b == 42) text

-- what stands before a pattern's star, and after it
abbrev pub front_of : List ℕ → List ℕ
front_of pattern = before_first (λ b. b == 42) pattern

-- what follows the star of a pattern
abbrev pub back_of : List ℕ → List ℕ
back_of pattern = after_first (λ b. b == 42) pattern

-- what stands between a prefix and a suffix in a name that has both
abbrev pub between : List ℕ → List ℕ → List ℕ → Option (List ℕ)
between front back name =
    if nat_le (length front + length back) (length name) && starts_with nat_eq name front && ends_with nat_eq name back
    then Some (take (length name - length front - length back) (drop (length front) name)) else None

-- whether a source is written in full
abbrev pub is_full : List ℕ → Bool
is_full source = bytes_eq source head || starts_with nat_eq source refs

-- whether a name is one that a short source may stand for
abbrev pub is_expansion : List ℕ → List ℕ → Bool
is_expansion source name =
    bytes_eq source name || bytes_eq (refs ++ source) name || bytes_eq (tags ++ source) name || bytes_eq (heads ++ source) name
    || bytes_eq (remotes ++ source) name || bytes_eq (remotes ++ (source ++ slash_head)) name

-- the empty text, where it is so
abbrev pub where_true : Bool → Option (List ℕ)
where_true true = Some []
where_true false = None

-- where a source matches a name, what its star stands for (nothing, where it has none)
abbrev pub taken : List ℕ → List ℕ → Option (List ℕ)
taken source name =
    if has_star source then between (front_of source) (back_of source) name
    else where_true (if is_full source then bytes_eq source name else is_expansion source name)

-- a pattern with its star replaced
abbrev pub with_middle : List ℕ → List ℕ → List ℕ
with_middle pattern middle = if has_star pattern then front_of pattern ++ middle ++ back_of pattern else pattern

-- what a destination lacks at its front
abbrev pub missing_front : List ℕ → List ℕ
missing_front text =
    if starts_with nat_eq text short_heads || starts_with nat_eq text short_tags || starts_with nat_eq text short_remotes then refs
    else if starts_with nat_eq text refs then []
    else heads

-- a destination in full
abbrev pub completed : List ℕ → List ℕ
completed text = missing_front text ++ text

-- a destination with its star replaced, in full
abbrev pub expanded : List ℕ → List ℕ → List ℕ
expanded middle destination = completed (with_middle destination middle)

-- whether a refspec is an exclusion
abbrev pub is_exclusion : Mode → Bool
is_exclusion Normal = false
is_exclusion Force = false
is_exclusion Exclusion = true

-- the id that a source is
abbrev pub source_id : Option (List ℕ) → Option ObjectId
source_id source = option_and_then id_named source

-- where a source is there and matches a name
abbrev pub source_taken : Option (List ℕ) → List ℕ → Option (List ℕ)
source_taken None name = None
source_taken (Some source) name = taken source name

-- whether a positive spec whose source is no id matches a name
abbrev pub takes : Spec → List ℕ → Bool
takes spec name = not (is_exclusion spec.mode) && not (is_some (source_id spec.source)) && is_some (source_taken spec.source name)

-- whether an exclusion matches a name
abbrev pub excludes : List ℕ → Spec → Bool
excludes name spec = is_exclusion spec.mode && is_some (source_taken spec.source name)

-- whether an exclusion names this name
abbrev pub is_excluded : List Spec → List ℕ → Bool
is_excluded specs name = list_any (excludes name) specs

-- whether an id is of this hash
abbrev pub is_of : Kind → ObjectId → Bool
is_of kinds.Sha1 (ids.Sha1 bytes) = true
is_of kinds.Sha1 (ids.Sha256 bytes) = false
is_of kinds.Sha256 (ids.Sha1 bytes) = false
is_of kinds.Sha256 (ids.Sha256 bytes) = true

-- what a spec whose source is an id of this kind maps
abbrev pub id_mapping : Kind → ℕ → Spec → Option ObjectId → Option Match
id_mapping kind i spec None = None
id_mapping kind i spec (Some id) =
    if is_exclusion spec.mode || not (is_of kind id) then None
    else Some (record { lhs = sources.ObjectId id; rhs = option_map (expanded []) spec.destination; item_index = None; spec_index = i })

-- the match of a source that is an id of this hash
abbrev pub id_match : Kind → ℕ → Spec → Option Match
id_match kind i spec = id_mapping kind i spec (source_id spec.source)

-- what a positive spec whose source is no id maps of a name, unless that is excluded
abbrev pub mapping_unless : Bool → ℕ → Spec → ℕ → List ℕ → Option (List ℕ) → Option Match
mapping_unless excluded i spec j name None = None
mapping_unless excluded i spec j name (Some middle) =
    if is_exclusion spec.mode || is_some (source_id spec.source) || excluded then None
    else Some (record {
      lhs = sources.FullName name;
      rhs = option_map (expanded middle) spec.destination;
      item_index = Some j;
      spec_index = i;
    })

-- the match of a name with this middle, unless it is excluded
abbrev pub name_mapping : List Spec → ℕ → Spec → ℕ → List ℕ → Option (List ℕ) → Option Match
name_mapping specs i spec j name middle = mapping_unless (is_excluded specs name) i spec j name middle

-- the match of a name that a refspec's source takes
abbrev pub name_match : List Spec → ℕ → Spec → ℕ → List ℕ → Option Match
name_match specs i spec j name = name_mapping specs i spec j name (source_taken spec.source name)

-- the texts that are this name when they are completed: itself, without `refs/`, without `refs/heads/`
abbrev pub forms_of : List ℕ → List (List ℕ)
forms_of name = filter (λ text. bytes_eq (completed text) name) (name ∷ drop (length refs) name ∷ drop (length heads) name ∷ [])

-- what a destination's star stands for in a text (nothing, where it has none)
abbrev pub given : List ℕ → List ℕ → Option (List ℕ)
given destination text = if has_star destination then between (front_of destination) (back_of destination) text
    else where_true (bytes_eq destination text)

-- a source with its star replaced, unless a name is taken out
abbrev pub unless_excluded : List Spec → List ℕ → Option (List ℕ)
unless_excluded specs source = if is_excluded specs source then None else Some source

-- the source of a positive spec whose destination, its star replaced, is this text
abbrev pub source_to : List Spec → Spec → List ℕ → Option (List ℕ) → Option (List ℕ) → Option (List ℕ)
source_to specs spec text None destination = None
source_to specs spec text (Some source) None = None
source_to specs spec text (Some source) (Some destination) =
    if is_exclusion spec.mode || is_some (id_named source) then None
    else option_and_then (λ middle. unless_excluded specs (with_middle source middle)) (given destination text)

-- the source that a refspec's destination gives for this text
abbrev pub source_given : List Spec → Spec → List ℕ → Option (List ℕ)
source_given specs spec text = source_to specs spec text spec.source spec.destination

-- the sources of a spec that lead to a name: that of the full destination first, then without `refs/`, then without `refs/heads/`
abbrev pub sources_leading : List Spec → Spec → List ℕ → List (List ℕ)
sources_leading specs spec name = filter_map (source_given specs spec) (forms_of name)

-- a source that leads to a name
abbrev pub leading : ℕ → ℕ → List ℕ → List ℕ → Match
leading i j name source = record { lhs = sources.FullName source; rhs = Some name; item_index = Some j; spec_index = i }

-- the matches of a refspec whose destination leads to a name
abbrev pub source_matches : List Spec → ℕ → Spec → ℕ → List ℕ → List Match
source_matches specs i spec j name = map (leading i j name) (sources_leading specs spec name)

-- one or none, after others
abbrev pub found : Option Match → List Match
found None = []
found (Some m) = m ∷ []

-- what each element gives with its number, one after the other
abbrev pub numbered : {X : Type 0} → (ℕ → X → List Match) → ℕ → List X → List Match
numbered f i [] = []
numbered f i (x ∷ xs) = f i x ++ numbered f (i + 1) xs

-- the ids, in the order of the specs
abbrev pub ids_from : Kind → ℕ → List Spec → List Match
ids_from kind i specs = numbered (λ i spec. found (id_match kind i spec)) i specs

-- the matches of a refspec for a name
abbrev pub name_matches : List Spec → ℕ → Spec → ℕ → List ℕ → List Match
name_matches specs i spec j name = found (name_match specs i spec j name)

-- one spec, name by name
abbrev pub names_from : (ℕ → List ℕ → List Match) → ℕ → List (List ℕ) → List Match
names_from mapped j names = numbered mapped j names

-- spec by spec
abbrev pub specs_from : (ℕ → Spec → ℕ → List ℕ → List Match) → ℕ → List Spec → List (List ℕ) → List Match
specs_from mapped i specs names = numbered (λ i spec. names_from (mapped i spec) 0 names) i specs

-- a source as a text, names and ids apart
abbrev pub source_key : SourceRef → List ℕ
source_key (sources.FullName name) = 0 ∷ name
source_key (sources.ObjectId id) = 1 ∷ bytes_of id

-- the key of a destination, which keeps none apart from any text
abbrev pub destination_key : Option (List ℕ) → List ℕ
destination_key None = []
destination_key (Some text) = 0 ∷ text

-- the source of a match, and its destination where it counts
abbrev pub key_of : Bool → Match → List ℕ × List ℕ
key_of true m = (source_key m.lhs, destination_key m.rhs)
key_of false m = (source_key m.lhs, [])

-- whether two matches have the same source, and the same destination where it counts
abbrev pub is_same : Bool → Match → Match → Bool
is_same pairs a b = bytes_eq (key_of pairs a).0 (key_of pairs b).0 && bytes_eq (key_of pairs a).1 (key_of pairs b).1

-- each of them once, where it comes first
abbrev pub once : {X : Type 0} → (X → X → Bool) → List X → List X
once same [] = []
once same (x ∷ xs) = x ∷ filter (λ y. not (same x y)) (once same xs)

-- what the specs map: the ids, then spec by spec and name by name, each pair of source and destination once
unfoldable pub mappings_of : List Spec → List (List ℕ) → Kind → List Match
mappings_of specs names kind = once (is_same true) (ids_from kind 0 specs ++ specs_from (name_matches specs) 0 specs names)

-- the sources that lead to the names, each once
unfoldable pub sources_of : List Spec → List (List ℕ) → List Match
sources_of specs names = once (is_same false) (specs_from (source_matches specs) 0 specs names)

-- the order of keys
abbrev pub key_cmp : List ℕ × List ℕ → List ℕ × List ℕ → Ordering
key_cmp x y = ordering_then (slice_cmp nat_cmp x.0 y.0) (slice_cmp nat_cmp x.1 y.1)

-- one more match, unless the same is there
abbrev pub added : Bool → List Match → Match → List Match
added pairs ms m = if list_any (λ x. is_same pairs x m) ms then ms else ms ++ m ∷ []

-- with each of these matches, unless it is there
abbrev pub added_all : Bool → List Match → List Match → List Match
added_all pairs ms [] = ms
added_all pairs ms (n ∷ ns) = added_all pairs (added pairs ms n) ns
