-- Which repositories can be served.
use Rattle.std.specs.Prelude.{◌≡◌, ◌≢◌, ℕ, Bool, true, false, not, ◌||◌, List, [], length, map, filter, nat_lt, slice_get, Option, Some}
use Rattle.std.specs.Prelude.{None, Result, Ok, Err, ⊤, if◌then◌else◌}
use Rattle.std.specs.FinMap as finmap
use Rattle.std.specs.FinSet as set
use Rattle.fetch_store.specs.Borders.{IdSet}
use Rattle.fetch_store.specs.Graph.{Graph}
use Rattle.fetch_store.specs.Closed.{AreAllOf, IsClosed, holding}
use Rattle.fetch_store.specs.Missing.{unclosed}
use Rattle.fetch_store.specs.Stores.{ObjectMap}
use Rattle.fetch_base.specs.declared.id.ObjectId.{ObjectId}
use Rattle.fetch_refs.specs.Peeled.{and_then, resolved, through}
use Rattle.fetch_refs.specs.declared.error.RefError.{RefError}
use Rattle.fetch_refs.specs.declared.error.RefError.TheVariants as refusals
use Rattle.fetch_refs.specs.declared.target.Target.{Target}
use Rattle.fetch_refs.specs.declared.target.Target.TheVariants.{Object, Symbolic}
use Rattle.fetch_specs.specs.Names.{is_full_name}
use Rattle.fetch_reach.specs.Named.{AreObjects, AreOwnIds, IsFirstMisnamed}
use Rattle.fetch_asked.specs.declared.error.ServeError.{ServeError}
use Rattle.fetch_asked.specs.declared.error.ServeError.TheVariants as errors
use Rattle.fetch_serve.specs.Served.{Data, history_of, references_of}

-- what an id leads to through tags
abbrev pub behind_tags : Graph → ObjectId → Result ObjectId RefError
behind_tags history id = through history (finmap.len history) [] id

-- what a reference leads to by names, and then through tags
abbrev pub end_of : Data → List ℕ → Target → Result ObjectId RefError
end_of d name target = and_then (resolved d.names name target) (behind_tags (history_of d))

-- whether that is refused, for another cause than that the reference is unborn
abbrev pub is_refused : Result ObjectId RefError → Bool
is_refused (Ok id) = false
is_refused (Err (refusals.Unborn name)) = false
is_refused (Err _) = true

-- whether a name is longer than 30,000 bytes
abbrev pub is_long : List ℕ → Bool
is_long name = nat_lt 30000 (length name)

-- Whether what a reference names can't be listed: its name is too long, or no full one. Those of a repository are full.
abbrev pub is_unlistable : Target → Bool
is_unlistable (Object id) = false
is_unlistable (Symbolic name) = is_long name || not (is_full_name name)

-- whether a reference can't be served: it or what it names is too long to be listed, or it leads to nothing
abbrev pub is_unservable : Data → List ℕ × Target → Bool
is_unservable d e = is_long e.0 || is_unlistable e.1 || is_refused (end_of d e.0 e.1)

-- a name, where it is a full one
abbrev pub if_full : List ℕ → Option (List ℕ)
if_full name = if is_full_name name then Some name else None

-- the names of the references that can't be served, ascending
abbrev pub unservable_names : Data → List (List ℕ)
unservable_names d = map (λ e. e.0) (filter (is_unservable d) (references_of d))

-- A repository that can be served, without a border. Its objects are in their grammar and of its hash, and each stands
-- at its own id. It is closed, and each of its references can be served.
pub record IsServable (d : Data) : Type 0 where
  pub hash : AreAllOf d.hash d.objects
  pub objects : AreObjects d.objects
  pub own : AreOwnIds d.objects
  pub closed : IsClosed (holding d.objects set.empty)
  pub names : unservable_names d ≡ []

-- Why objects with this border aren't served: the first cause, in this order.
abbrev pub IsObjectTrouble : ObjectMap → IdSet → ServeError → Type 0
IsObjectTrouble objects border errors.ShallowServer = border ≢ set.empty
IsObjectTrouble objects border (errors.WrongId id) = (border ≡ set.empty) × IsFirstMisnamed objects id
IsObjectTrouble objects border (errors.NotClosed link) =
    (border ≡ set.empty) × AreOwnIds objects × (slice_get (unclosed (holding objects border)) 0 ≡ Some link)
IsObjectTrouble objects border (errors.NotServable name) = ⊥
IsObjectTrouble objects border (errors.Malformed place) = ⊥
IsObjectTrouble objects border (errors.RequestTooLong bound) = ⊥
IsObjectTrouble objects border errors.NoMemory = ⊤

-- Why a repository with this border isn't served: its objects' cause, or else its first reference that can't be served. Out
-- of memory says nothing of it.
abbrev pub IsTrouble : Data → IdSet → ServeError → Type 0
IsTrouble d border errors.ShallowServer = IsObjectTrouble d.objects border errors.ShallowServer
IsTrouble d border (errors.WrongId id) = IsObjectTrouble d.objects border (errors.WrongId id)
IsTrouble d border (errors.NotClosed link) = IsObjectTrouble d.objects border (errors.NotClosed link)
IsTrouble d border (errors.NotServable name) =
    (border ≡ set.empty) × AreOwnIds d.objects × IsClosed (holding d.objects border) × (slice_get (unservable_names d) 0 ≡ Some name)
IsTrouble d border (errors.Malformed place) = ⊥
IsTrouble d border (errors.RequestTooLong bound) = ⊥
IsTrouble d border errors.NoMemory = ⊤
