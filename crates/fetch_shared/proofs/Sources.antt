-- What the updates of a fetch tell of sources and of new ids, where each id that is mapped is held.
use Rattle.std.proofs.Common.{◌≡◌, ◌≢◌, ℕ, zero, suc, Bool, true, false, cond, List, [], ◌∷◌, map, filter, Option, Some, None, refl, sym, ap, subst, ◌∙◌, inl, inr, arith, Contains}
use Rattle.std.specs.Prelude.{◌⊎◌, ◌&&◌, is_some}
use Rattle.std.specs.FinMap as finmap
use Rattle.std.specs.List.{slice_get}
use Rattle.std.specs.Option.{option_and_then, option_map}
use Rattle.fetch_base.specs.declared.id.ObjectId.{ObjectId}
use Rattle.fetch_store.specs.Closed.{IsStored}
use Rattle.fetch_store.specs.Graph.{node_of, graph_of}
use Rattle.fetch_objects.specs.Objects.{Stored}
use Rattle.fetch_store.specs.Stores.{ObjectMap}
use Rattle.fetch_store.proofs.Graphs.{get-graph_of}
use Rattle.fetch_specs.specs.declared.tags.Tags.{Tags}
use Rattle.fetch_specs.specs.declared.tags.Tags.TheVariants as wanted_tags
use Rattle.fetch_specs.specs.Specs.{Spec}
use Rattle.fetch_specs.specs.Tagged.{is_tag_spec, tag_spec}
use Rattle.fetch_specs.proofs.AllTags.{known as is_the_tag_spec}
use Rattle.fetch_refs.specs.declared.edit.RefEdit.{RefEdit}
use Rattle.fetch_refs.specs.declared.target.Target.TheVariants as targets
use Rattle.fetch_negotiate.specs.Requests.{is_included}
use Rattle.fetch_negotiate.specs.Wants.{is_tag_index}
use Rattle.fetch_map.specs.Mappings.{spec_at}
use Rattle.fetch_lines.specs.References.{source_id}
use Rattle.fetch_map.specs.declared.mapping.Mapping.{Mapping}
use Rattle.fetch_map.specs.declared.mapping.RefMap.{RefMap}
use Rattle.fetch_map.specs.declared.mapping.SpecIndex.{SpecIndex}
use Rattle.fetch_map.specs.declared.mapping.SpecIndex.TheVariants as indices
use Rattle.fetch_lines.specs.declared.listings.reference.Ref.{Ref}
use Rattle.fetch_lines.specs.declared.listings.reference.Ref.TheVariants as remote
use Rattle.fetch_lines.specs.declared.listings.reference.Source.{Source}
use Rattle.fetch_lines.specs.declared.listings.reference.Source.TheVariants as sources
use Rattle.fetch_update.specs.Accepted.{HasOneEach, is_found}
use Rattle.fetch_update.specs.Accepting.{is_accepting}
use Rattle.fetch_update.specs.Policy.{value_of, is_stored}
use Rattle.fetch_update.specs.Rejecting.{IsNotFound, IsRejected}
use Rattle.fetch_update.specs.Writes.{gives}
use Rattle.fetch_update.specs.declared.mode.Mode.{Mode}
use Rattle.fetch_update.specs.declared.mode.Mode.TheVariants as modes
use Rattle.fetch_update.specs.declared.update.Outcome.{Outcome as Updates}
use Rattle.fetch_update.specs.declared.update.Update.{Update}
use Rattle.fetch_update.specs.declared.worktrees.Worktree.{Worktree}
use Rattle.fetch_update.proofs.Wholes.{new_ids_stored}
use Rattle.fetch_conversation.specs.declared.conversing.Received.{Received}
use Rattle.fetch_remote.specs.Fetched.{IsJudged, HoldsMapped, policy_at, is_aside}
use Rattle.fetch_remote.specs.Form.{Given}
use Rattle.fetch_remote.specs.Lasting.{updates_in}
use Rattle.fetch_remote.specs.Repositories.{State}
use Rattle.fetch_remote.specs.Applying.{told_with, status_of}
use Rattle.fetch_remote.specs.declared.fetching.outcome.Outcome.{Outcome}
use Rattle.fetch_remote.proofs.Wanted.{first_in, later_in, cases_in, either, stored_node}

-- ---- lists

map_by : {X Y : Type 0} (f : X → Y) (xs : List X) (x a : X) → (a ≡ x) ⊎ Contains (map f xs) (f x) → Contains (map f (a ∷ xs)) (f x)
map_by {X} {Y} f xs x a (inl same) = subst (λ (k : X). Contains (map f (a ∷ xs)) (f k)) same (first_in (f a) (map f xs))
map_by f xs x a (inr later) = later_in (f x) (f a) (map f xs) later

contains_map : {X Y : Type 0} (f : X → Y) (xs : List X) (x : X) → Contains xs x → Contains (map f xs) (f x)
contains_map f [] x h = absurd (omega (arith, h.1))
contains_map f (a ∷ xs) x h = map_by f xs x a (either (λ k. contains_map f xs x k) (cases_in x a xs h))

from_first : {X : Type 0} (p : X → Bool) (x a : X) → p a ≡ true → (a ≡ x) ⊎ (p x ≡ true) → p x ≡ true
from_first {X} p x a is (inl same) = subst (λ (k : X). p k ≡ true) same is
from_first p x a is (inr later) = later

filter_by : {X : Type 0} (p : X → Bool) (x a : X) (rest : List X) (b : Bool) → p a ≡ b → (Contains rest x → p x ≡ true) → Contains (cond b (a ∷ rest) rest) x → p x ≡ true
filter_by p x a rest true is again h = from_first p x a is (either again (cases_in x a rest h))
filter_by p x a rest false is again h = again h

filter_test : {X : Type 0} (p : X → Bool) (xs : List X) (x : X) → Contains (filter p xs) x → p x ≡ true
filter_test p [] x h = absurd (omega (arith, h.1))
filter_test p (a ∷ xs) x h = filter_by p x a (filter p xs) (p a) refl (λ k. filter_test p xs x k) h

contains_at : {X : Type 0} (xs : List X) (i : ℕ) (x : X) → slice_get xs i ≡ Some x → Contains xs x
contains_at [] i x is = absurd (cc)
contains_at {X} (y ∷ ys) zero x is = let same : y ≡ x = cc in subst (λ (k : X). Contains (y ∷ ys) k) same (first_in y ys)
contains_at (y ∷ ys) (suc i) x is = later_in x y ys (contains_at ys i x is)

-- ---- the mapping of an update

record HasMapping (specs extra : List Spec) (mappings : List Mapping) (u : Update) : Type 0 where
  pub mapping : Mapping
  pub refspec : Spec
  pub at : slice_get mappings u.mapping_index ≡ Some mapping
  pub made : spec_at mapping.spec_index specs extra ≡ Some refspec

found_mapping : (specs extra : List Spec) (mappings : List Mapping) (u : Update) → is_found specs extra mappings u.mapping_index ≡ true → HasMapping specs extra mappings u
found_mapping specs extra mappings u is = by (slice_get mappings u.mapping_index) refl is
  where
    with_spec : (m : Mapping) → slice_get mappings u.mapping_index ≡ Some m → (s : Option Spec) → spec_at m.spec_index specs extra ≡ s → is_some s ≡ true → HasMapping specs extra mappings u
    with_spec m at (Some s) made given_so = record { mapping = m; refspec = s; at = at; made = made }
    with_spec m at None made given_so = absurd (cc)

    by : (o : Option Mapping) → slice_get mappings u.mapping_index ≡ o → is_some (option_and_then (λ m. spec_at m.spec_index specs extra) o) ≡ true → HasMapping specs extra mappings u
    by (Some m) at given_so = with_spec m at (spec_at m.spec_index specs extra) refl given_so
    by None at given_so = absurd (cc)

has_mapping : (specs extra : List Spec) (mappings : List Mapping) (o : Updates) (u : Update) → HasOneEach specs extra mappings o → Contains o.updates u → HasMapping specs extra mappings u
has_mapping specs extra mappings o u each h =
    let k = contains_map (λ (x : Update). x.mapping_index) o.updates u h in
    let f = subst (λ (l : List ℕ). Contains l u.mapping_index) each k in
    found_mapping specs extra mappings u (filter_test (is_found specs extra mappings) _ u.mapping_index f)

-- ---- the updates that an outcome tells

updates_told : (git_dir : List ℕ) (dry : Bool) (r : Option Received) (u : Updates) → updates_in (status_of git_dir dry r u) ≡ u
updates_told git_dir true r u = refl
updates_told git_dir false None u = refl
updates_told git_dir false (Some r) u = by r.pack
  where
    by : (p : Option (ℕ × ObjectId)) → updates_in (told_with git_dir r.negotiate p u) ≡ u
    by None = refl
    by (Some p) = refl

-- ---- a source that isn't stored

and_left : (a b : Bool) → (a && b) ≡ true → a ≡ true
and_left true b is = refl
and_left false b is = absurd (cc)

and_right : (a b : Bool) → (a && b) ≡ true → b ≡ true
and_right true b is = is
and_right false b is = absurd (cc)

id_of_ref : (r : Ref) (id : ObjectId) → value_of (sources.Ref r) ≡ targets.Object id → source_id (sources.Ref r) ≡ Some id
id_of_ref (remote.Direct name object) id is = let same : object ≡ id = cc in ap (λ (x : ObjectId). Some x) same
id_of_ref (remote.Symbolic name target (Some tag) object) id is = let same : tag ≡ id = cc in ap (λ (x : ObjectId). Some x) same
id_of_ref (remote.Symbolic name target None object) id is = let same : object ≡ id = cc in ap (λ (x : ObjectId). Some x) same
id_of_ref (remote.Peeled name tag object) id is = let same : tag ≡ id = cc in ap (λ (x : ObjectId). Some x) same
id_of_ref (remote.Unborn name target) id is = absurd (cc)

id_of_source : (s : Source) (id : ObjectId) → value_of s ≡ targets.Object id → source_id s ≡ Some id
id_of_source (sources.ObjectId x) id is = let same : x ≡ id = cc in ap (λ (k : ObjectId). Some k) same
id_of_source (sources.Ref r) id is = id_of_ref r id is

included_tags : (tags : Tags) → is_included tags ≡ true → tags ≡ wanted_tags.Included
included_tags wanted_tags.All is = absurd (cc)
included_tags wanted_tags.Included is = refl
included_tags wanted_tags.None is = absurd (cc)

tag_index_spec : (at : SpecIndex) (specs extra : List Spec) (s : Spec) → spec_at at specs extra ≡ Some s → is_tag_index at extra ≡ true → is_tag_spec s ≡ true
tag_index_spec (indices.ExplicitInRemote i) specs extra s made is = absurd (cc)
tag_index_spec (indices.Implicit i) specs extra s made is = rw made at is

-- an aside mapping is one of the tags that are sent along
aside_tags : (g : Given) (m : RefMap) (mapping : Mapping) (s : Spec) → spec_at mapping.spec_index m.refspecs m.extra_refspecs ≡ Some s → is_aside g m mapping ≡ true → (g.remote.tags ≡ wanted_tags.Included) × (s ≡ tag_spec)
aside_tags g m mapping s made is = (
  included_tags g.remote.tags (and_left (is_included g.remote.tags) _ is),
  (is_the_tag_spec s).0 (tag_index_spec mapping.spec_index m.refspecs m.extra_refspecs s made (and_right (is_included g.remote.tags) _ is)),
)

node_there : (objects : ObjectMap) (id : ObjectId) → IsStored objects id → is_stored (graph_of objects) id ≡ true
node_there objects id stored = ap is_some (get-graph_of objects id) ∙ by (finmap.get objects id) stored
  where
    by : (o : Option Stored) → is_some o ≡ true → is_some (option_map node_of o) ≡ true
    by (Some x) given_so = refl
    by None given_so = absurd (cc)

module _ (g : Given) (trees : List Worktree) (s : State) (m : RefMap) (held : g.options.dry_run ≡ false → HoldsMapped g m s.objects) where
  not_missing : (mapping : Mapping) (spec : Spec) (id : ObjectId) → Contains m.mappings mapping → spec_at mapping.spec_index m.refspecs m.extra_refspecs ≡ Some spec → IsNotFound (policy_at g trees s s) spec mapping id → ⊥
  not_missing mapping spec id among made r = by (is_aside g m mapping) refl
    where
      by : (b : Bool) → is_aside g m mapping ≡ b → ⊥
      by true aside = r.others (aside_tags g m mapping spec made aside)
      by false sent =
          let stored = (held r.missing.asked).each mapping id among sent (id_of_source mapping.remote id r.missing.remote_id) in
          let h : true ≡ false = sym (node_there s.objects id stored) ∙ r.missing.absent in
          cc

  not_rejected : (edits : List RefEdit) (mapping : Mapping) (spec : Spec) (id : ObjectId) → Contains m.mappings mapping → spec_at mapping.spec_index m.refspecs m.extra_refspecs ≡ Some spec
      → IsRejected (policy_at g trees s s) edits spec mapping (modes.RejectedSourceObjectNotFound id) → ⊥
  not_rejected edits mapping spec id among made (inl r) = not_missing mapping spec id among made r
  not_rejected edits mapping spec id among made (inr k) = let h = k.0 in absurd (cc)

module _ (g : Given) (trees : List Worktree) (s : State) (received : Option Received) (outcome : Outcome) (j : IsJudged g trees s s received outcome) where
  updates_are : updates_in outcome.status ≡ j.updates
  updates_are = ap updates_in j.status ∙ updates_told g.setup.settings.git_dir g.options.dry_run received j.updates

  -- no update tells that the object of its source isn't found
  pub source_found : (g.options.dry_run ≡ false → HoldsMapped g outcome.ref_map s.objects) → (u : Update) (id : ObjectId) → Contains (updates_in outcome.status).updates u → u.mode ≡ modes.RejectedSourceObjectNotFound id → ⊥
  source_found held u id among is =
      let m = outcome.ref_map in
      let there : Contains j.updates.updates u = subst (λ (o : Updates). Contains o.updates u) updates_are among in
      let k = has_mapping m.refspecs m.extra_refspecs m.mappings j.updates u j.one_each there in
      let r = j.rejects.told u k.mapping k.refspec there (record { mapping = k.at; refspec = k.made }) (ap is_accepting is) in
      not_rejected g trees s m held j.updates.edits k.mapping k.refspec id (contains_at m.mappings u.mapping_index k.mapping k.at) k.made (subst (λ (mode : Mode). IsRejected (policy_at g trees s s) j.updates.edits k.refspec k.mapping mode) is r)

  -- an id that an edit newly gives to a reference is stored
  pub new_id_stored : g.options.dry_run ≡ false → (e : RefEdit) (id : ObjectId) → Contains (updates_in outcome.status).edits e → gives e ≡ Some (targets.Object id) → finmap.get s.refs.names e.name ≢ Some (targets.Object id) → IsStored s.objects id
  new_id_stored wet e id among given_id other =
      let there : Contains j.updates.edits e = subst (λ (o : Updates). Contains o.edits e) updates_are among in
      stored_node s.objects id (new_ids_stored (policy_at g trees s s) outcome.ref_map.refspecs outcome.ref_map.extra_refspecs outcome.ref_map.mappings j.updates j.verdicts wet e id there given_id other)
