-- The references that a server offers, and its greeting.
use Rattle.std.specs.Prelude.{ℕ, Bool, true, false, ◌&&◌, ◌||◌, List, [], ◌∷◌, ◌++◌, length, nat_eq, codes, Option, Some, None}
use Rattle.std.specs.Prelude.{if◌then◌else◌}
use Rattle.std.specs.List.{filter_map, flat_map, list_any, starts_with}
use Rattle.std.specs.Option.{option_and_then}
use Rattle.std.specs.Result.{result_ok}
use Rattle.std.specs.Str.{bytes_eq}
use Rattle.fetch_store.specs.Graph.{Graph}
use Rattle.fetch_base.specs.declared.id.Kind.{Kind}
use Rattle.fetch_base.specs.declared.id.ObjectId.{ObjectId}
use Rattle.fetch_refs.specs.Leading.{next_tag}
use Rattle.fetch_refs.specs.Peeled.{resolved}
use Rattle.fetch_refs.specs.declared.target.Target.{Target}
use Rattle.fetch_refs.specs.declared.target.Target.TheVariants.{Object, Symbolic}
use Rattle.fetch_specs.specs.Categories.{refs}
use Rattle.fetch_replies.specs.Listings.{ref_with}
use Rattle.fetch_lines.specs.References.{id_in, peeled_in}
use Rattle.fetch_lines.specs.Requests.{kind_text}
use Rattle.fetch_lines.specs.declared.greetings.handshake.Capability.{Capability}
use Rattle.fetch_lines.specs.declared.listings.reference.Ref.{Ref}
use Rattle.fetch_lines.specs.declared.listings.reference.Ref.TheVariants.{Direct, Symbolic as Naming, Peeled, Unborn}
use Rattle.fetch_serve.specs.Served.{Data, history_of, references_of}
use Rattle.fetch_serve.specs.Servable.{behind_tags}

-- ---- the greeting

-- a feature and its value
abbrev pub capability : List ℕ → List ℕ → Capability
capability name value = record { name = name; value = Some value }

-- what a server of this hash offers
unfoldable pub capabilities_of : Kind → List Capability
capabilities_of hash =
    capability (codes "ls-refs") (codes "unborn") ∷ capability (codes "fetch") (codes "shallow plain-pack plain-pack-2")
    ∷ capability (codes "object-format") (kind_text hash) ∷ []

-- ---- the references

-- the name that Git begins with
unfoldable pub head_name : List ℕ
head_name = codes "HEAD"

-- what a reference names
abbrev pub target_of : Target → Option (List ℕ)
target_of (Object id) = None
target_of (Symbolic name) = Some name

-- what a tag leads to, and nothing of another object
abbrev pub peeled_from : Graph → ObjectId → Option ObjectId
peeled_from history id = option_and_then (λ _. result_ok (behind_tags history id)) (next_tag history id)

-- the same, where there is an id
abbrev pub peeled_behind : Graph → Option ObjectId → Option ObjectId
peeled_behind history None = None
peeled_behind history (Some id) = peeled_from history id

-- A reference as it is listed: by the id that it leads to by names, by its own target, and by what a tag there leads to.
-- One that leads to no id is unborn where it names another.
abbrev pub listed : Data → List ℕ × Target → Option Ref
listed d e =
    let id = result_ok (resolved d.names e.0 e.1) in
    ref_with e.0 id (target_of e.1, peeled_behind (history_of d) id)

-- `HEAD`, and the names under `refs/`
abbrev pub is_public : List ℕ → Bool
is_public name = bytes_eq name head_name || starts_with nat_eq name refs

-- one of the prefixes, where there are some
abbrev pub is_under : List (List ℕ) → List ℕ → Bool
is_under prefixes name = nat_eq (length prefixes) 0 || list_any (λ p. starts_with nat_eq name p) prefixes

-- An unborn reference is told where it is `HEAD` and was asked for.
abbrev pub is_told : Bool → Ref → Bool
is_told unborn (Unborn name target) = unborn && bytes_eq name head_name
is_told unborn (Direct name object) = true
is_told unborn (Naming name target tag object) = true
is_told unborn (Peeled name tag object) = true

-- a reference that is told
abbrev pub if_told : Bool → Ref → Option Ref
if_told unborn r = if is_told unborn r then Some r else None

-- a reference that is offered, where it is
abbrev pub offer : Data → Bool → List (List ℕ) → List ℕ × Target → Option Ref
offer d unborn prefixes e =
    if is_public e.0 && is_under prefixes e.0 then option_and_then (if_told unborn) (listed d e) else None

-- The references that are offered: `HEAD`, and then those under `refs/` by ascending name. In the order of names `HEAD`
-- comes before them, since capitals do.
abbrev pub offered_of : Data → Bool → List (List ℕ) → List Ref
offered_of d unborn prefixes = filter_map (offer d unborn prefixes) (references_of d)

-- the value, if it is there
abbrev pub some_of : Option ObjectId → List ObjectId
some_of None = []
some_of (Some id) = id ∷ []

-- the ids of a reference: its own, and what its tag leads to
abbrev pub ids_in : Ref → List ObjectId
ids_in r = some_of (id_in r) ++ some_of (peeled_in r)

-- the ids that may be wanted: those of all references that are offered
abbrev pub offered_ids : Data → List ObjectId
offered_ids d = flat_map ids_in (offered_of d false [])
