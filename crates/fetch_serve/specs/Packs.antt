-- The pack that a server gives.
use Rattle.std.specs.Prelude.{◌≡◌, ◌⊎◌, ℕ, zero, suc, Bool, false, not, ◌&&◌, ◌||◌, List, [], ◌∷◌, ◌++◌, filter, nat_eq, codes, Option}
use Rattle.std.specs.Prelude.{Some, None, IsTrue, All, Contains, if◌then◌else◌}
use Rattle.std.specs.FinSet as set
use Rattle.std.specs.FinMap as finmap
use Rattle.std.specs.List.{flat_map, starts_with}
use Rattle.std.specs.Option.{option_map_or}
use Rattle.fetch_store.specs.Borders.{IdSet, merged}
use Rattle.fetch_store.specs.Closed.{Holding, IsClosed, IsCommit, Reached, holding, links_at}
use Rattle.fetch_store.specs.Graph.{Graph}
use Rattle.fetch_store.specs.Honest.{Pack}
use Rattle.fetch_store.specs.Missing.{parents_at}
use Rattle.fetch_objects.specs.Objects.{Stored}
use Rattle.fetch_store.specs.Stores.{ObjectMap}
use Rattle.fetch_base.specs.declared.id.ObjectId.{ObjectId}
use Rattle.fetch_refs.specs.Leading.{IsTagWay, next_tag}
use Rattle.fetch_reach.specs.Stored.{entries_at}
use Rattle.fetch_lines.specs.References.{id_in, name_in, peeled_in}
use Rattle.fetch_lines.specs.declared.listings.reference.Ref.{Ref}
use Rattle.fetch_asked.specs.declared.asked.FetchAsked.{FetchAsked}
use Rattle.fetch_serve.specs.declared.depth.Depth.{Depth}
use Rattle.fetch_serve.specs.Depths.{border_of, depth_of}
use Rattle.fetch_serve.specs.Offered.{offered_of}
use Rattle.fetch_asked.specs.Requests.{has_id}
use Rattle.fetch_serve.specs.Served.{Data, history_of}

-- ---- what is reached

-- those of the ids that are stored
abbrev pub stored_in : ObjectMap → List ObjectId → List ObjectId
stored_in objects ids = filter (finmap.contains_key objects) ids

-- what is reached from the starts in at most that many steps; an id may stand more than once
unfoldable pub reached_within : Holding → List ObjectId → ℕ → List ObjectId
reached_within h starts zero = stored_in h.objects starts
reached_within h starts (suc n) = reached_within h starts n ++ stored_in h.objects (flat_map (links_at h) (reached_within h starts n))

-- Whether an id is reached from the starts. As many steps as there are objects suffice.
unfoldable pub is_reached : Holding → List ObjectId → ObjectId → Bool
is_reached h starts id = has_id id (reached_within h starts (finmap.len h.objects))

-- ---- the objects

-- the server's objects, as who has this border sees them
abbrev pub seen_by : Data → IdSet → Holding
seen_by d border = holding d.objects border

-- the objects behind the border that the client will have
abbrev pub seen_after : Data → FetchAsked → Depth → Holding
seen_after d r x = seen_by d (merged (border_of r) x.shallow x.unshallow)

-- where the pack begins: the wants, the kept commits, and the parents of commits that leave the border
abbrev pub starts_of : Data → FetchAsked → Depth → List ObjectId
starts_of d r x = r.wants ++ (x.kept ++ flat_map (parents_at d.objects) x.unshallow)

-- the haves that are stored, in the request's order
abbrev pub known_haves : Data → FetchAsked → List ObjectId
known_haves d r = stored_in d.objects r.haves

-- An object is needed that is reached from where the pack begins and that the client doesn't have, as its haves and its
-- border tell.
pub record IsNeeded (d : Data) (r : FetchAsked) (x : Depth) (id : ObjectId) : Type 0 where
  pub reached : Reached (seen_after d r x) (starts_of d r x) id
  pub lacking : ¬ Reached (seen_by d (border_of r)) (known_haves d r) id

-- the same, as a test
abbrev pub is_needed : Data → FetchAsked → Depth → ObjectId → Bool
is_needed d r x id =
    is_reached (seen_after d r x) (starts_of d r x) id && not (is_reached (seen_by d (border_of r)) (known_haves d r) id)

-- the name of a tag
unfoldable pub tags_prefix : List ℕ
tags_prefix = codes "refs/tags/"

-- A tag stands on the way from a tag that is offered to an object that is needed.
pub record IsTagOnTheWay (d : Data) (r : FetchAsked) (x : Depth) (id : ObjectId) : Type 0 where
  pub reference : Ref
  pub offered : Contains (offered_of d false []) reference
  pub named : IsTrue (starts_with nat_eq (name_in reference) tags_prefix)
  pub first : ObjectId
  pub from : id_in reference ≡ Some first
  pub last : ObjectId
  pub to : peeled_in reference ≡ Some last
  pub needed : IsNeeded d r x last
  pub way : List ObjectId
  pub leads : IsTagWay (history_of d) first way last
  pub among : Contains way id

-- the tags from an id on, of which there are at most that many
abbrev pub tags_from : Graph → ℕ → ObjectId → List ObjectId
tags_from history zero id = []
tags_from history (suc n) id = option_map_or (λ next. id ∷ tags_from history n next) (next_tag history id) []

-- the tags from an id on, if there is one
abbrev pub tags_at : Graph → Option ObjectId → List ObjectId
tags_at history None = []
tags_at history (Some id) = tags_from history (finmap.len history) id

-- whether an id is there, and passes
abbrev pub is_some_of : (ObjectId → Bool) → Option ObjectId → Bool
is_some_of test None = false
is_some_of test (Some id) = test id

-- whether a reference is a tag that leads to what is needed
abbrev pub is_tag_to : (ObjectId → Bool) → Ref → Bool
is_tag_to needed reference = starts_with nat_eq (name_in reference) tags_prefix && is_some_of needed (peeled_in reference)

-- the tags on the way of a reference, where it is a tag that leads to what is needed
abbrev pub tags_of : Graph → (ObjectId → Bool) → Ref → List ObjectId
tags_of history needed reference = if is_tag_to needed reference then tags_at history (id_in reference) else []

-- the tags that come along, where they are asked for
abbrev pub tags_along : Data → FetchAsked → Depth → List ObjectId
tags_along d r x = if r.include_tag then flat_map (tags_of (history_of d) (is_needed d r x)) (offered_of d false []) else []

-- An object is served that is needed, or, where tags are asked for, a tag on the way to one.
abbrev pub IsServedAt : Data → FetchAsked → Depth → ObjectId → Type 0
IsServedAt d r x id = IsNeeded d r x id ⊎ (IsTrue r.include_tag × IsTagOnTheWay d r x id)

-- the ids that are served, ascending
abbrev pub served_at : Data → FetchAsked → Depth → List ObjectId
served_at d r x = filter (λ id. is_needed d r x id || has_id id (tags_along d r x)) (finmap.keys d.objects)

-- The pack and its lines: what is served, in ascending order of the ids.
abbrev pub pack_at : Data → FetchAsked → Depth → Pack
pack_at d r x = record { objects = entries_at d.objects (served_at d r x); shallow = x.shallow; unshallow = x.unshallow }

-- ---- what a request is answered by

-- an object is served
abbrev pub IsServed : Data → FetchAsked → ObjectId → Type 0
IsServed d r id = IsServedAt d r (depth_of d r) id

-- the ids that are served, ascending
abbrev pub served_of : Data → FetchAsked → List ObjectId
served_of d r = served_at d r (depth_of d r)

-- the pack and its lines
abbrev pub pack_of : Data → FetchAsked → Pack
pack_of d r = pack_at d r (depth_of d r)

-- ---- who takes it

-- Where both hold an id that is in the client's border or reached from its haves, they hold one object there.
pub record Agrees (d : Data) (client : Holding) (haves : List ObjectId) : Type 0 where
  pub border : (id : ObjectId) (o p : Stored) → IsTrue (set.contains client.border id) → finmap.get client.objects id ≡ Some o
      → finmap.get d.objects id ≡ Some p → o ≡ p
  pub reached : (id : ObjectId) (o p : Stored) → Reached client haves id → finmap.get client.objects id ≡ Some o
      → finmap.get d.objects id ≡ Some p → o ≡ p

-- A closed client that may have sent this request: its border is the one that was sent, and each have is a commit that it
-- holds.
pub record IsClient (d : Data) (r : FetchAsked) (client : Holding) : Type 0 where
  pub closed : IsClosed client
  pub border : client.border ≡ border_of r
  pub haves : All (IsCommit client.objects) r.haves
  pub agrees : Agrees d client r.haves
