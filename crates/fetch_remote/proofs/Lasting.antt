-- What a fetch leaves, in words of references and ids.
use Rattle.std.proofs.Common.{◌≡◌, ◌≢◌, ℕ, zero, suc, ◌+◌, ◌<◌, Bool, true, false, cond, List, [], ◌∷◌, length, map, filter, Option, Some, None, Result, Ok, Err, refl, sym, ap, subst, ◌∙◌, inl, inr, arith, Contains}
use Rattle.std.specs.Prelude.{◌⊎◌, ◌&&◌, is_some, if◌then◌else◌}
use Rattle.std.specs.FinMap as finmap
use Rattle.std.specs.List.{filter_map, slice_get, range_with_len}
use Rattle.std.specs.Option.{option_or, option_and_then, option_flatten, option_map}
use Rattle.std.specs.Str.{bytes_eq}
use Rattle.std.proofs.lemmas.Option.{slice_get_read}
use Rattle.std.proofs.lemmas.List.FromFn.{length-range_with_len, get_or-range_with_len}
use Rattle.std.proofs.lemmas.Slice.Eq.{bytes_eq-Decides}
use Rattle.fetch_base.specs.declared.id.ObjectId.{ObjectId}
use Rattle.fetch_store.specs.Closed.{IsStored}
use Rattle.fetch_store.specs.Graph.{node_of, graph_of}
use Rattle.fetch_objects.specs.Objects.{Stored}
use Rattle.fetch_store.specs.Stores.{ObjectMap}
use Rattle.fetch_files.specs.Trees.{Tree}
use Rattle.fetch_store.proofs.Graphs.{get-graph_of}
use Rattle.fetch_specs.specs.declared.tags.Tags.{Tags}
use Rattle.fetch_specs.specs.declared.tags.Tags.TheVariants as wanted_tags
use Rattle.fetch_specs.specs.Specs.{Spec}
use Rattle.fetch_specs.specs.Tagged.{is_tag_spec, tag_spec}
use Rattle.fetch_specs.proofs.AllTags.{known as is_the_tag_spec}
use Rattle.fetch_refs.specs.Edits.{written, written_in, refs_after}
use Rattle.fetch_refs.specs.declared.edit.PackedRefs.{PackedRefs}
use Rattle.fetch_refs.specs.Laws.{last_that, writes, left_by, new_value, mode_of, touches_reference}
use Rattle.fetch_refs.specs.declared.edit.Change.{Change}
use Rattle.fetch_refs.specs.declared.edit.Change.TheVariants.{Update as Writes, Delete}
use Rattle.fetch_refs.specs.declared.edit.RefEdit.{RefEdit}
use Rattle.fetch_refs.specs.declared.edit.RefLog.{RefLog}
use Rattle.fetch_refs.specs.declared.edit.RefLog.TheVariants.{AndReference, Only}
use Rattle.fetch_refs.specs.declared.target.Target.{Target}
use Rattle.fetch_refs.specs.declared.target.Target.TheVariants as targets
use Rattle.fetch_refs.proofs.LastEdits.{last_edit}
use Rattle.fetch_negotiate.specs.Requests.{is_included}
use Rattle.fetch_negotiate.specs.Wants.{is_tag_index}
use Rattle.fetch_map.specs.Mappings.{spec_at}
use Rattle.fetch_lines.specs.References.{source_id}
use Rattle.fetch_lines.specs.Talks.{Talk}
use Rattle.fetch_map.specs.declared.mapping.Mapping.{Mapping}
use Rattle.fetch_map.specs.declared.mapping.RefMap.{RefMap}
use Rattle.fetch_map.specs.declared.mapping.SpecIndex.{SpecIndex}
use Rattle.fetch_map.specs.declared.mapping.SpecIndex.TheVariants as indices
use Rattle.fetch_lines.specs.declared.listings.reference.Ref.{Ref}
use Rattle.fetch_lines.specs.declared.listings.reference.Ref.TheVariants as remote
use Rattle.fetch_lines.specs.declared.listings.reference.Source.{Source}
use Rattle.fetch_lines.specs.declared.listings.reference.Source.TheVariants as sources
use Rattle.fetch_update.specs.Accepted.{HasOneEach, EditsCarryOut, edit_for, is_found}
use Rattle.fetch_update.specs.Accepting.{is_accepting}
use Rattle.fetch_update.specs.Policy.{Policy, value_of, is_stored}
use Rattle.fetch_update.specs.Rejecting.{IsNotFound, IsRejected}
use Rattle.fetch_update.specs.declared.mode.Mode.{Mode}
use Rattle.fetch_update.specs.declared.mode.Mode.TheVariants as modes
use Rattle.fetch_update.specs.Writes.{gives}
use Rattle.fetch_update.specs.declared.update.Outcome.{Outcome as Updates}
use Rattle.fetch_update.specs.declared.update.Update.{Update}
use Rattle.fetch_update.specs.declared.worktrees.Worktree.{Worktree}
use Rattle.fetch_update.proofs.Wholes.{new_ids_stored}
use Rattle.fetch_conversation.specs.Conversation.{map_refusal, answer_in}
use Rattle.fetch_conversation.specs.ListStage.{ListedValue}
use Rattle.fetch_conversation.specs.declared.conversing.Received.{Received}
use Rattle.fetch_conversation.specs.declared.fetch.Error.{Error as ReceiveError}
use Rattle.fetch_remote.specs.declared.fetching.outcome.Outcome.{Outcome}
use Rattle.fetch_remote.specs.Errors.{receiving}
use Rattle.fetch_remote.specs.Fetched.{IsFetched, IsSafe, carried_out, policy_at, is_aside}
use Rattle.fetch_remote.specs.Fetching.{apply_options_in, places_of, applied_in, applied_by, fetched_in}
use Rattle.fetch_remote.specs.Form.{Given}
use Rattle.fetch_remote.specs.Lasting.{updates_in, AcceptsNone, AreAlike, with_packed}
use Rattle.fetch_remote.specs.Repositories.{State, Setup}
use Rattle.fetch_remote.specs.Applying.{told_with, status_of, moved, outcome_in, applied}
use Rattle.fetch_remote.specs.Stages.{Told, bound_of, conversation, receiving_stage}
use Rattle.fetch_remote.specs.declared.fetching.fetch_error.FetchError.{FetchError}
use Rattle.fetch_remote.specs.declared.fetching.applying.ApplyOptions.{ApplyOptions}
use Rattle.fetch_remote.proofs.Applied.{AppliedAs, applied_as}
use Rattle.fetch_remote.proofs.Wanted.{first_in, later_in, cases_in, either, stored_node}

-- ---- lists

last_by : {X : Type 0} (p : X → Bool) (ys : List X) (x y : X) (o : Option X) → (o ≡ Some x → Contains ys x × (p x ≡ true)) → (b : Bool) → p y ≡ b → option_or o (if b then Some y else None) ≡ Some x → Contains (y ∷ ys) x × (p x ≡ true)
last_by {X} p ys x y (Some z) later b test is =
    let same : z ≡ x = cc in
    let h = later (ap (λ (k : X). Some k) same) in
    (later_in x y ys h.0, h.1)
last_by {X} p ys x y None later true test is =
    let same : y ≡ x = cc in
    (subst (λ (k : X). Contains (y ∷ ys) k) same (first_in y ys), subst (λ (k : X). p k ≡ true) same test)
last_by p ys x y None later false test is = absurd (cc)

last_in : {X : Type 0} (p : X → Bool) (xs : List X) (x : X) → last_that p xs ≡ Some x → Contains xs x × (p x ≡ true)
last_in p [] x is = absurd (cc)
last_in p (y ∷ ys) x is = last_by p ys x y (last_that p ys) (λ later. last_in p ys x later) (p y) refl is

record MappedFrom {X Y : Type 0} (f : X → Option Y) (xs : List X) (y : Y) : Type 0 where
  pub from : X
  pub among : Contains xs from
  pub is : f from ≡ Some y

mapped_later : {X Y : Type 0} (f : X → Option Y) (xs : List X) (a : X) (y : Y) → MappedFrom f xs y → MappedFrom f (a ∷ xs) y
mapped_later f xs a y m = record { from = m.from; among = later_in m.from a xs m.among; is = m.is }

mapped_first : {X Y : Type 0} (f : X → Option Y) (xs : List X) (a : X) (b y : Y) → f a ≡ Some b → (b ≡ y) ⊎ MappedFrom f xs y → MappedFrom f (a ∷ xs) y
mapped_first {X} {Y} f xs a b y is (inl same) = record { from = a; among = first_in a xs; is = is ∙ ap (λ (k : Y). Some k) same }
mapped_first f xs a b y is (inr m) = mapped_later f xs a y m

mapped_by : {X Y : Type 0} (f : X → Option Y) (xs : List X) (a : X) (y : Y) (o : Option Y) → f a ≡ o → (Contains (filter_map f xs) y → MappedFrom f xs y) → Contains (filter_map f (a ∷ xs)) y → MappedFrom f (a ∷ xs) y
mapped_by f xs a y (Some b) is again h = mapped_first f xs a b y is (either again (cases_in y b (filter_map f xs) (rw is at h)))
mapped_by f xs a y None is again h = mapped_later f xs a y (again (rw is at h))

mapped_from : {X Y : Type 0} (f : X → Option Y) (xs : List X) (y : Y) → Contains (filter_map f xs) y → MappedFrom f xs y
mapped_from f [] y h = absurd (omega (arith, h.1))
mapped_from f (a ∷ xs) y h = mapped_by f xs a y (f a) refl (λ k. mapped_from f xs y k) h

map_by : {X Y : Type 0} (f : X → Y) (xs : List X) (x a : X) → (a ≡ x) ⊎ Contains (map f xs) (f x) → Contains (map f (a ∷ xs)) (f x)
map_by {X} {Y} f xs x a (inl same) = subst (λ (k : X). Contains (map f (a ∷ xs)) (f k)) same (first_in (f a) (map f xs))
map_by f xs x a (inr later) = later_in (f x) (f a) (map f xs) later

contains_map : {X Y : Type 0} (f : X → Y) (xs : List X) (x : X) → Contains xs x → Contains (map f xs) (f x)
contains_map f [] x h = absurd (omega (arith, h.1))
contains_map f (a ∷ xs) x h = map_by f xs x a (either (λ k. contains_map f xs x k) (cases_in x a xs h))

from_first : {X : Type 0} (p : X → Bool) (x a : X) → p a ≡ true → (a ≡ x) ⊎ (p x ≡ true) → p x ≡ true
from_first {X} p x a is (inl same) = subst (λ (k : X). p k ≡ true) same is
from_first p x a is (inr later) = later

filter_by : {X : Type 0} (p : X → Bool) (x a : X) (rest : List X) (b : Bool) → p a ≡ b → (Contains rest x → p x ≡ true) → Contains (cond b (a ∷ rest) rest) x → p x ≡ true
filter_by p x a rest true is again h = from_first p x a is (either again (cases_in x a rest h))
filter_by p x a rest false is again h = again h

filter_test : {X : Type 0} (p : X → Bool) (xs : List X) (x : X) → Contains (filter p xs) x → p x ≡ true
filter_test p [] x h = absurd (omega (arith, h.1))
filter_test p (a ∷ xs) x h = filter_by p x a (filter p xs) (p a) refl (λ k. filter_test p xs x k) h

in_range : (n i : ℕ) → i < n → Contains (range_with_len 0 n) i
in_range n i lt =
    let zero_more : 0 + i ≡ i = omega arith in
    (i, rw (length-range_with_len 0 n) lt, get_or-range_with_len 0 n i i lt ∙ zero_more)

-- ---- the update of an edit, and its mapping

edit_at : (edits : List RefEdit) (e : RefEdit) → (h : Contains edits e) → slice_get edits h.0 ≡ Some e
edit_at edits e h = slice_get_read edits (length edits) h.0 e refl h.1 (sym h.2)

record HasUpdate (o : Updates) (e : RefEdit) : Type 0 where
  pub update : Update
  pub among : Contains o.updates update
  pub edit : edit_for o.edits update ≡ Some e

has_update : (p : Policy) (mappings : List Mapping) (o : Updates) (e : RefEdit) → EditsCarryOut p mappings o → Contains o.edits e → HasUpdate o e
has_update p mappings o e c h =
    let i = in_range (length o.edits) h.0 h.1 in
    let u = mapped_from (λ (x : Update). x.edit_index) o.updates h.0 (subst (λ (l : List ℕ). Contains l h.0) (sym c.one_each) i) in
    record { update = u.from; among = u.among; edit = rw u.is (edit_at o.edits e h) }

record HasMapping (specs extra : List Spec) (mappings : List Mapping) (u : Update) : Type 0 where
  pub mapping : Mapping
  pub refspec : Spec
  pub at : slice_get mappings u.mapping_index ≡ Some mapping
  pub made : spec_at mapping.spec_index specs extra ≡ Some refspec

found_mapping : (specs extra : List Spec) (mappings : List Mapping) (u : Update) → is_found specs extra mappings u.mapping_index ≡ true → HasMapping specs extra mappings u
found_mapping specs extra mappings u is = by (slice_get mappings u.mapping_index) refl is
  where
    with_spec : (m : Mapping) → slice_get mappings u.mapping_index ≡ Some m → (s : Option Spec) → spec_at m.spec_index specs extra ≡ s → is_some s ≡ true → HasMapping specs extra mappings u
    with_spec m at (Some s) made given_so = record { mapping = m; refspec = s; at = at; made = made }
    with_spec m at None made given_so = absurd (cc)

    by : (o : Option Mapping) → slice_get mappings u.mapping_index ≡ o → is_some (option_and_then (λ m. spec_at m.spec_index specs extra) o) ≡ true → HasMapping specs extra mappings u
    by (Some m) at given_so = with_spec m at (spec_at m.spec_index specs extra) refl given_so
    by None at given_so = absurd (cc)

has_mapping : (specs extra : List Spec) (mappings : List Mapping) (o : Updates) (u : Update) → HasOneEach specs extra mappings o → Contains o.updates u → HasMapping specs extra mappings u
has_mapping specs extra mappings o u each h =
    let k = contains_map (λ (x : Update). x.mapping_index) o.updates u h in
    let f = subst (λ (l : List ℕ). Contains l u.mapping_index) each k in
    found_mapping specs extra mappings u (filter_test (is_found specs extra mappings) (range_with_len 0 (length mappings)) u.mapping_index f)

-- ---- what edits leave at a name

written_value : (mode : RefLog) (value : Option Target) → touches_reference mode ≡ true → value ≡ option_flatten (written_in mode value)
written_value AndReference value is = refl
written_value Only value is = absurd (cc)

value_given : (c : Change) → touches_reference (mode_of c) ≡ true → new_value c ≡ option_flatten (written c)
value_given (Writes log expected new) is = written_value log.mode (Some new) is
value_given (Delete expected log) is = written_value log None is

and_left : (a b : Bool) → (a && b) ≡ true → a ≡ true
and_left true b is = refl
and_left false b is = absurd (cc)

and_right : (a b : Bool) → (a && b) ≡ true → b ≡ true
and_right true b is = is
and_right false b is = absurd (cc)

-- an edit that isn't of an accepted update gives what was found
gives_found : (p : Policy) (specs extra : List Spec) (mappings : List Mapping) (o : Updates) (name : List ℕ) (e : RefEdit) → EditsCarryOut p mappings o → HasOneEach specs extra mappings o → AcceptsNone o name
    → Contains o.edits e → writes name e ≡ true → new_value e.change ≡ finmap.get p.names name
gives_found p specs extra mappings o name e c each none among is =
    let same : name ≡ e.name = (bytes_eq-Decides name e.name).0 (and_left (bytes_eq name e.name) _ is) in
    let u = has_update p mappings o e c among in
    let m = has_mapping specs extra mappings o u.update each u.among in
    value_given e.change (and_right (bytes_eq name e.name) _ is) ∙ by same u m (is_accepting u.update.mode) refl
  where
    by : name ≡ e.name → (u : HasUpdate o e) → HasMapping specs extra mappings u.update → (b : Bool) → is_accepting u.update.mode ≡ b → gives e ≡ finmap.get p.names name
    by same u m true given_so = absurd (none u.update e u.among given_so u.edit (sym same))
    by same u m false given_not = (c.each u.update m.mapping e u.among m.at u.edit).kept given_not ∙ ap (finmap.get p.names) (sym same)

kept_after : (p : Policy) (specs extra : List Spec) (mappings : List Mapping) (o : Updates) (name : List ℕ) → EditsCarryOut p mappings o → HasOneEach specs extra mappings o → AcceptsNone o name
    → finmap.get (refs_after p.names o.edits) name ≡ finmap.get p.names name
kept_after p specs extra mappings o name c each none = last_edit p.names o.edits name ∙ by (last_that (writes name) o.edits) refl
  where
    by : (x : Option RefEdit) → last_that (writes name) o.edits ≡ x → left_by (finmap.get p.names name) x ≡ finmap.get p.names name
    by None is = refl
    by (Some e) is = let h = last_in (writes name) o.edits e is in gives_found p specs extra mappings o name e c each none h.0 h.1

kept_name : (dry : Bool) (p : Policy) (specs extra : List Spec) (mappings : List Mapping) (o : Updates) (name : List ℕ) → EditsCarryOut p mappings o → HasOneEach specs extra mappings o → AcceptsNone o name
    → finmap.get (refs_after p.names (carried_out dry o.edits)) name ≡ finmap.get p.names name
kept_name true p specs extra mappings o name c each none = refl
kept_name false p specs extra mappings o name c each none = kept_after p specs extra mappings o name c each none

-- ---- the updates that an outcome tells

updates_told : (git_dir : List ℕ) (dry : Bool) (r : Option Received) (u : Updates) → updates_in (status_of git_dir dry r u) ≡ u
updates_told git_dir true r u = refl
updates_told git_dir false None u = refl
updates_told git_dir false (Some r) u = by r.pack
  where
    by : (p : Option (ℕ × ObjectId)) → updates_in (told_with git_dir r.negotiate p u) ≡ u
    by None = refl
    by (Some p) = refl

updates_are : (answers : Bool) (old new : Option Talk) (known : Option (List Worktree)) (files files_left : Option Tree) (g : Given) (before after : State) (outcome : Outcome) → (h : IsFetched answers old new known files files_left g before after outcome) → updates_in outcome.status ≡ h.carried.judged.updates
updates_are answers old new known files files_left g before after outcome h = ap updates_in h.carried.judged.status ∙ updates_told g.setup.settings.git_dir g.options.dry_run h.read.received h.carried.judged.updates

-- ---- the laws

pub others_stay : (answers : Bool) (old new : Option Talk) (known : Option (List Worktree)) (files files_left : Option Tree) (g : Given) (before after : State) (outcome : Outcome) → IsFetched answers old new known files files_left g before after outcome
    → (name : List ℕ) → AcceptsNone (updates_in outcome.status) name → finmap.get after.refs.names name ≡ finmap.get before.refs.names name
others_stay answers old new known files files_left g before after outcome h name none =
    let same = updates_are answers old new known files files_left g before after outcome h in
    let j = h.carried.judged in
    rw h.carried.left.refs (kept_name g.options.dry_run (policy_at g h.carried.trees before after) outcome.ref_map.refspecs outcome.ref_map.extra_refspecs outcome.ref_map.mappings j.updates name h.carried.written.carried j.one_each (rw same at none))

pub new_ids_stay : (answers : Bool) (old new : Option Talk) (known : Option (List Worktree)) (files files_left : Option Tree) (g : Given) (before after : State) (outcome : Outcome) → IsFetched answers old new known files files_left g before after outcome
    → g.options.dry_run ≡ false → (e : RefEdit) (id : ObjectId) → Contains (updates_in outcome.status).edits e → gives e ≡ Some (targets.Object id) → finmap.get before.refs.names e.name ≢ Some (targets.Object id) → IsStored after.objects id
new_ids_stay answers old new known files files_left g before after outcome h wet e id among given_id other =
    let same = updates_are answers old new known files files_left g before after outcome h in
    let j = h.carried.judged in
    stored_node after.objects id (new_ids_stored (policy_at g h.carried.trees before after) outcome.ref_map.refspecs outcome.ref_map.extra_refspecs outcome.ref_map.mappings j.updates j.verdicts wet e id (rw same at among) given_id other)

-- ---- a source that isn't stored

contains_at : {X : Type 0} (xs : List X) (i : ℕ) (x : X) → slice_get xs i ≡ Some x → Contains xs x
contains_at [] i x is = absurd (cc)
contains_at {X} (y ∷ ys) zero x is = let same : y ≡ x = cc in subst (λ (k : X). Contains (y ∷ ys) k) same (first_in y ys)
contains_at (y ∷ ys) (suc i) x is = later_in x y ys (contains_at ys i x is)

id_of_ref : (r : Ref) (id : ObjectId) → value_of (sources.Ref r) ≡ targets.Object id → source_id (sources.Ref r) ≡ Some id
id_of_ref (remote.Direct name object) id is = let same : object ≡ id = cc in ap (λ (x : ObjectId). Some x) same
id_of_ref (remote.Symbolic name target (Some tag) object) id is = let same : tag ≡ id = cc in ap (λ (x : ObjectId). Some x) same
id_of_ref (remote.Symbolic name target None object) id is = let same : object ≡ id = cc in ap (λ (x : ObjectId). Some x) same
id_of_ref (remote.Peeled name tag object) id is = let same : tag ≡ id = cc in ap (λ (x : ObjectId). Some x) same
id_of_ref (remote.Unborn name target) id is = absurd (cc)

id_of_source : (s : Source) (id : ObjectId) → value_of s ≡ targets.Object id → source_id s ≡ Some id
id_of_source (sources.ObjectId x) id is = let same : x ≡ id = cc in ap (λ (k : ObjectId). Some k) same
id_of_source (sources.Ref r) id is = id_of_ref r id is

included_tags : (tags : Tags) → is_included tags ≡ true → tags ≡ wanted_tags.Included
included_tags wanted_tags.All is = absurd (cc)
included_tags wanted_tags.Included is = refl
included_tags wanted_tags.None is = absurd (cc)

tag_index_spec : (at : SpecIndex) (specs extra : List Spec) (s : Spec) → spec_at at specs extra ≡ Some s → is_tag_index at extra ≡ true → is_tag_spec s ≡ true
tag_index_spec (indices.ExplicitInRemote i) specs extra s made is = absurd (cc)
tag_index_spec (indices.Implicit i) specs extra s made is = rw made at is

-- an aside mapping is one of the tags that are sent along
aside_tags : (g : Given) (m : RefMap) (mapping : Mapping) (s : Spec) → spec_at mapping.spec_index m.refspecs m.extra_refspecs ≡ Some s → is_aside g m mapping ≡ true → (g.remote.tags ≡ wanted_tags.Included) × (s ≡ tag_spec)
aside_tags g m mapping s made is = (
  included_tags g.remote.tags (and_left (is_included g.remote.tags) _ is),
  (is_the_tag_spec s).0 (tag_index_spec mapping.spec_index m.refspecs m.extra_refspecs s made (and_right (is_included g.remote.tags) _ is)),
)

node_there : (objects : ObjectMap) (id : ObjectId) → IsStored objects id → is_stored (graph_of objects) id ≡ true
node_there objects id stored = ap is_some (get-graph_of objects id) ∙ by (finmap.get objects id) stored
  where
    by : (o : Option Stored) → is_some o ≡ true → is_some (option_map node_of o) ≡ true
    by (Some x) given_so = refl
    by None given_so = absurd (cc)

not_missing : (g : Given) (trees : List Worktree) (before after : State) (m : RefMap) (mapping : Mapping) (s : Spec) (id : ObjectId) → IsSafe g before after m → Contains m.mappings mapping → spec_at mapping.spec_index m.refspecs m.extra_refspecs ≡ Some s
    → IsNotFound (policy_at g trees before after) s mapping id → ⊥
not_missing g trees before after m mapping s id safe among made r = by (is_aside g m mapping) refl
  where
    by : (b : Bool) → is_aside g m mapping ≡ b → ⊥
    by true aside = r.others (aside_tags g m mapping s made aside)
    by false sent =
        let stored = (safe.holds r.missing.asked).each mapping id among sent (id_of_source mapping.remote id r.missing.remote_id) in
        let h : true ≡ false = sym (node_there after.objects id stored) ∙ r.missing.absent in
        cc

not_rejected : (g : Given) (trees : List Worktree) (before after : State) (m : RefMap) (edits : List RefEdit) (mapping : Mapping) (s : Spec) (id : ObjectId) → IsSafe g before after m → Contains m.mappings mapping → spec_at mapping.spec_index m.refspecs m.extra_refspecs ≡ Some s
    → IsRejected (policy_at g trees before after) edits s mapping (modes.RejectedSourceObjectNotFound id) → ⊥
not_rejected g trees before after m edits mapping s id safe among made (inl r) = not_missing g trees before after m mapping s id safe among made r
not_rejected g trees before after m edits mapping s id safe among made (inr k) = let h = k.0 in absurd (cc)

pub all_sources_found : (answers : Bool) (old new : Option Talk) (known : Option (List Worktree)) (files files_left : Option Tree) (g : Given) (before after : State) (outcome : Outcome) → IsFetched answers old new known files files_left g before after outcome
    → (u : Update) (id : ObjectId) → Contains (updates_in outcome.status).updates u → u.mode ≡ modes.RejectedSourceObjectNotFound id → ⊥
all_sources_found answers old new known files files_left g before after outcome h u id among is =
    let same = updates_are answers old new known files files_left g before after outcome h in
    let j = h.carried.judged in
    let m = outcome.ref_map in
    let there = rw same at among in
    let k = has_mapping m.refspecs m.extra_refspecs m.mappings j.updates u j.one_each there in
    let r = j.rejects.told u k.mapping k.refspec there (record { mapping = k.at; refspec = k.made }) (ap is_accepting is) in
    not_rejected g h.carried.trees before after m j.updates.edits k.mapping k.refspec id h.carried.safe (contains_at m.mappings u.mapping_index k.mapping k.at) k.made (subst (λ (mode : Mode). IsRejected (policy_at g h.carried.trees before after) j.updates.edits k.refspec k.mapping mode) is r)

-- ---- packed and loose

alike_moved : (dry : Bool) (a b : PackedRefs) (setup : Setup) (s : State) (edits : List RefEdit) → AreAlike (moved dry a setup s edits) (moved dry b setup s edits)
alike_moved true a b setup s edits = record { hash = refl; objects = refl; border = refl; refs = record { hash = refl; names = refl; logs = refl } }
alike_moved false a b setup s edits = record { hash = refl; objects = refl; border = refl; refs = record { hash = refl; names = refl; logs = refl } }

-- an applied fetch, with references written elsewhere
record AppliesAlike (setup : Setup) (how : ApplyOptions) (trees : List Worktree) (before : State) (wants : List ObjectId) (l : ListedValue) (r : Option Received) (outcome : Outcome) (a : State) : Type 0 where
  pub state : State
  pub is : applied setup how trees before wants l r ≡ Ok (outcome, state)
  pub alike : AreAlike a state

applied_elsewhere : (setup : Setup) (how : ApplyOptions) (packed : PackedRefs) (trees : List Worktree) (before : State) (wants : List ObjectId) (l : ListedValue) (r : Option Received) (outcome : Outcome) (a : State)
    → AppliedAs setup how trees before wants l r outcome a → AppliesAlike setup (record how { packed = packed }) trees before wants l r outcome a
unfolding applied
applied_elsewhere setup how packed trees before wants l r outcome a p =
    let state = moved how.dry_run packed setup p.state p.updates.edits in
    let is : applied setup (record how { packed = packed }) trees before wants l r ≡ Ok (outcome_in setup.settings.git_dir how l r p.updates, state) = rw (p.took, p.judged) refl in
    record {
      state = state;
      is = is ∙ ap (λ (o : Outcome). Ok (o, state)) (sym p.outcome_is);
      alike = subst (λ (x : State). AreAlike x state) (sym p.after_is) (alike_moved how.dry_run how.packed packed setup p.state p.updates.edits);
    }

applied_alike : (setup : Setup) (how : ApplyOptions) (packed : PackedRefs) (trees : List Worktree) (before : State) (wants : List ObjectId) (l : ListedValue) (r : Option Received) (outcome : Outcome) (a : State)
    → applied setup how trees before wants l r ≡ Ok (outcome, a) → AppliesAlike setup (record how { packed = packed }) trees before wants l r outcome a
applied_alike setup how packed trees before wants l r outcome a is =
    applied_elsewhere setup how packed trees before wants l r outcome a (applied_as setup how trees before wants l r outcome a is)

alike_by : (g : Given) (only other : Bool) (trees : List Worktree) (s : State) (answer : Result (Told × List ℕ) FetchError) (outcome : Outcome) (a : State) → applied_by (with_packed only g) trees s answer ≡ Ok (outcome, a)
    → (b : State) × (applied_by (with_packed other g) trees s answer ≡ Ok (outcome, b)) × AreAlike a b
alike_by g only other trees s (Err e) outcome a is = absurd (cc)
alike_by g only other trees s (Ok x) outcome a is = by (applied_in (with_packed only g) trees s x.0) refl is
  where
    by : (found : Result (Outcome × State) ReceiveError) → applied_in (with_packed only g) trees s x.0 ≡ found → map_refusal receiving found ≡ Ok (outcome, a) → (b : State) × (applied_by (with_packed other g) trees s (Ok x) ≡ Ok (outcome, b)) × AreAlike a b
    by (Err e) found told = absurd (cc)
    by (Ok y) found told =
        let same : y ≡ (outcome, a) = cc in
        let h = applied_alike g.setup (apply_options_in (with_packed only g)) (places_of other) trees s _ x.0.listed x.0.received outcome a (found ∙ ap (λ (k : Outcome × State). Ok k) same) in
        (h.state, ap (map_refusal receiving) h.is, h.alike)

pub fetched_alike : (g : Given) (only other : Bool) (trees : List Worktree) (s : State) (stream : List ℕ) (outcome : Outcome) (a : State) → fetched_in (with_packed only g) trees s stream ≡ Ok (outcome, a)
    → (b : State) × (fetched_in (with_packed other g) trees s stream ≡ Ok (outcome, b)) × AreAlike a b
unfolding fetched_in conversation receiving_stage
fetched_alike g only other trees s stream outcome a is = alike_by g only other trees s (answer_in (bound_of (with_packed only g)) (conversation (with_packed only g) s) stream) outcome a is
