-- Where a row holds, its verdict or its refusal is answered.
use Rattle.std.proofs.Common.{◌≡◌, ◌≢◌, ◌⊎◌, ℕ, Bool, true, false, List, Option, Some, None, Result, Ok, Err, refl, sym, ap, ◌∙◌, inl, inr}
use Rattle.std.specs.Prelude.{if◌then◌else◌, ◌&&◌, ◌||◌, is_some}
use Rattle.std.specs.FinMap as finmap
use Rattle.std.specs.Option.{option_and_then, option_map}
use Rattle.std.specs.Ordering.{eq_by_cmp}
use Rattle.std.specs.Str.{bytes_eq}
use Rattle.std.proofs.lemmas.Slice.Eq.{bytes_eq-Decides}
use Rattle.fetch_base.specs.declared.id.ObjectId.{ObjectId}
use Rattle.fetch_base.specs.Id.{id_cmp}
use Rattle.fetch_store.specs.Graph.{Graph, Node}
use Rattle.fetch_base.specs.Kinds.{is_kind}
use Rattle.fetch_base.specs.declared.object_kind.ObjectKind.TheVariants.{Commit}
use Rattle.fetch_specs.proofs.AllTags.{known as is_the_tag_spec}
use Rattle.fetch_specs.specs.Names.{is_full_name}
use Rattle.fetch_specs.specs.Specs.{Spec}
use Rattle.fetch_specs.specs.Tagged.{is_tag_spec}
use Rattle.fetch_refs.specs.Peeled.{peeled}
use Rattle.fetch_refs.specs.declared.error.RefError.{RefError}
use Rattle.fetch_refs.specs.declared.error.RefError.TheVariants as ref_errors
use Rattle.fetch_refs.specs.declared.target.Target.{Target}
use Rattle.fetch_refs.specs.declared.target.Target.TheVariants.{Object, Symbolic}
use Rattle.fetch_lines.specs.References.{source_target}
use Rattle.fetch_map.specs.declared.mapping.Mapping.{Mapping}
use Rattle.fetch_update.specs.declared.mode.Mode.{Mode}
use Rattle.fetch_update.specs.declared.mode.Mode.TheVariants as modes
use Rattle.fetch_update.specs.declared.update.Error.{Error}
use Rattle.fetch_update.specs.declared.update.Error.TheVariants as errors
use Rattle.fetch_update.specs.declared.verdict.Verdict.{Verdict}
use Rattle.fetch_update.specs.Accepting.{IsTaken, IsWritable, Stands, IsUnborn, HasIds, IsAbsent, NamesTheSame, NamesAnother, HasOneId, ReplacesTag, MovesForward, IsGuessed, Replaces, MayBeReplaced, HasRow, HasDryRow, Accepts, Tells}
use Rattle.fetch_update.specs.Ahead.{is_ahead}
use Rattle.fetch_update.specs.Policy.{Policy, place_of, is_forced, is_included, is_commit, is_stored, is_tag, value_of, nothing, written, created, after_check, if_valid, unborn_mode, at_stored, at_id, at_local, at_place, at_name, at_destination, unsent, unsent_mode, unless_unsent, verdict_of, change_unborn, no_update, updating_tag, guessed, fast_forward, forced_update}
use Rattle.fetch_update.specs.Refusing.{Refuses, HasBadDestination, HasBadTarget, LeadsNowhere, LacksLocal}
use Rattle.fetch_update.specs.Rejecting.{Rejects, IsMissing, IsUnrelatedTag, IsNotFound, IsCheckedOut, LosesId, KeepsTag, MovesAside}
use Rattle.fetch_update.specs.Trees.{is_checked_out}
use Rattle.fetch_update.proofs.Aheads.{ahead_is}
use Rattle.fetch_update.proofs.Fitting.{never, left, right, join, not_true, same, tied, included_is}

-- a test that is decided
pub yes_branch : {X : Type 0} (b : Bool) (x y : X) → b ≡ true → (if b then x else y) ≡ x
yes_branch true x y e = refl
yes_branch false x y e = never e

pub no_branch : {X : Type 0} (b : Bool) (x y : X) → b ≡ false → (if b then x else y) ≡ y
no_branch true x y e = never (sym e)
no_branch false x y e = refl

-- A mapping tells a mode, and is judged so.
abbrev pub IsTold : Policy → Spec → Mapping → Mode → Type 0
IsTold p s m mode = (v : Verdict) × (verdict_of p s m ≡ Ok v) × Tells m mode v

unsent_none : (p : Policy) (value : Target) → IsTaken p value → unsent p value ≡ None
unfolding unsent
unsent_none p (Symbolic name) taken = refl
unsent_none p (Object id) taken = yes_branch (p.dry_run || is_stored p.graph id) None (Some id) (either p.dry_run (is_stored p.graph id) taken)
  where
    either : (a b : Bool) → (a ≡ true) ⊎ (b ≡ true) → (a || b) ≡ true
    either true b e = refl
    either false b (inl e) = never e
    either false b (inr e) = e

valid_ok : (value : Target) (v : Verdict) → IsWritable value → if_valid value v ≡ Ok v
valid_ok (Object id) v w = refl
valid_ok (Symbolic name) v w = ap (λ (r : Result Target Error). after_check r v) (yes_branch (is_full_name name) (Ok (Symbolic name)) (Err (errors.InvalidRefName name)) w)

invalid_err : (value : Target) (v : Verdict) (text : List ℕ) → value ≡ Symbolic text → is_full_name text ≡ false → if_valid value v ≡ Err (errors.InvalidRefName text)
invalid_err value v text is invalid =
    ap (λ (t : Target). if_valid t v) is ∙ ap (λ (r : Result Target Error). after_check r v) (no_branch (is_full_name text) (Ok (Symbolic text)) (Err (errors.InvalidRefName text)) invalid)

commit_stored : (g : Graph) (id : ObjectId) → is_commit g id ≡ true → is_stored g id ≡ true
commit_stored g id e = found (finmap.get g id) e
  where
    found : (o : Option Node) → is_some (option_and_then (λ (n : Node). if is_kind n.kind Commit then Some n else None) o) ≡ true → is_some o ≡ true
    found None e = never e
    found (Some n) e = refl

module _ (p : Policy) (s : Spec) (m : Mapping) where
  -- ---- what is told where objects are there

  abbrev at : Option (List ℕ) → Result Verdict Error
  at local = at_destination p s m local

  pub taken_at : IsTaken p (value_of m.remote) → verdict_of p s m ≡ at m.local
  unfolding verdict_of
  taken_at taken = ap (λ (o : Option ObjectId). unless_unsent p s o (at m.local)) (unsent_none p (value_of m.remote) taken)

  name_at : (name : List ℕ) → m.local ≡ Some name → is_full_name name ≡ true → at m.local ≡ at_name p s m name (finmap.get p.names name)
  unfolding at_destination
  name_at name destination valid = ap at destination ∙ yes_branch (is_full_name name) _ _ valid

  place_at : (name : List ℕ) (found : Target) → m.local ≡ Some name → is_full_name name ≡ true → finmap.get p.names name ≡ Some found → at m.local ≡ at_place p (place_of s m name found)
  unfolding at_name
  place_at name found destination valid there = name_at name destination valid ∙ ap (at_name p s m name) there

  stands_at : (name : List ℕ) (found : Target) → Stands p m name found → at m.local ≡ at_local p (place_of s m name found) (peeled p.names p.graph name)
  unfolding at_place
  stands_at name found stands = place_at name found stands.destination stands.valid stands.there ∙ no_branch (is_checked_out p.worktrees name) _ _ stands.free

  pub unborn_at : (name target : List ℕ) → IsUnborn p m name target
      → at m.local ≡ if_valid (value_of m.remote) (written p.message (place_of s m name (Symbolic target)) (unborn_mode (Symbolic target) (source_target m.remote)) change_unborn)
  unfolding at_local
  unborn_at name target unborn = stands_at name (Symbolic target) unborn.stands ∙ ap (at_local p (place_of s m name (Symbolic target))) unborn.unborn

  ids_at : (name : List ℕ) (local remote : ObjectId) → (ids : HasIds p m name local remote) → at m.local ≡ at_id p (place_of s m name ids.found) local (Object remote)
  unfolding at_local
  ids_at name local remote ids =
      stands_at name ids.found ids.stands ∙ ap (at_local p (place_of s m name ids.found)) ids.local_id ∙ ap (at_id p (place_of s m name ids.found) local) ids.remote_id

  -- what is told where ids differ
  abbrev moved : List ℕ → Target → ObjectId → ObjectId → Result Verdict Error
  moved name found local remote =
      if is_tag name then Ok (if is_forced s.mode then written p.message (place_of s m name found) modes.Forced updating_tag else nothing modes.RejectedTagUpdate)
      else if p.dry_run then Ok (written p.message (place_of s m name found) modes.FastForward guessed)
      else if is_stored p.graph local then Ok (at_stored p (place_of s m name found) local remote)
      else Err (errors.FindCommit local)

  moved_at : (name : List ℕ) (local remote : ObjectId) → (ids : HasIds p m name local remote) → local ≢ remote → at m.local ≡ moved name ids.found local remote
  unfolding at_id
  moved_at name local remote ids differ =
      ids_at name local remote ids ∙ no_branch (eq_by_cmp id_cmp local remote) _ _ (not_true (eq_by_cmp id_cmp local remote) (λ e. differ (same local remote e)))

  tag_at : (name : List ℕ) (local remote : ObjectId) → (ids : HasIds p m name local remote) → local ≢ remote → is_tag name ≡ true
      → at m.local ≡ Ok (if is_forced s.mode then written p.message (place_of s m name ids.found) modes.Forced updating_tag else nothing modes.RejectedTagUpdate)
  tag_at name local remote ids differ tag = moved_at name local remote ids differ ∙ yes_branch (is_tag name) _ _ tag

  asked_at : p.dry_run ≡ false → (name : List ℕ) (local remote : ObjectId) (ids : HasIds p m name local remote) → local ≢ remote → is_tag name ≡ false
      → at m.local ≡ (if is_stored p.graph local then Ok (at_stored p (place_of s m name ids.found) local remote) else Err (errors.FindCommit local))
  asked_at wet name local remote ids differ no_tag = moved_at name local remote ids differ ∙ no_branch (is_tag name) _ _ no_tag ∙ no_branch p.dry_run _ _ wet

  stored_at : p.dry_run ≡ false → (name : List ℕ) (local remote : ObjectId) (ids : HasIds p m name local remote) → local ≢ remote → is_tag name ≡ false → is_stored p.graph local ≡ true
      → at m.local ≡ Ok (at_stored p (place_of s m name ids.found) local remote)
  stored_at wet name local remote ids differ no_tag stored = asked_at wet name local remote ids differ no_tag ∙ yes_branch (is_stored p.graph local) _ _ stored

  commits_at : p.dry_run ≡ false → (name : List ℕ) (local remote : ObjectId) (ids : HasIds p m name local remote) → local ≢ remote → is_tag name ≡ false → is_commit p.graph local ≡ true → is_commit p.graph remote ≡ true
      → at m.local
      ≡ Ok
      (if is_ahead p.graph remote local then written p.message (place_of s m name ids.found) modes.FastForward fast_forward
      else if is_forced s.mode then written p.message (place_of s m name ids.found) modes.Forced forced_update
      else nothing modes.RejectedNonFastForward)
  unfolding at_stored
  commits_at wet name local remote ids differ no_tag local_commit remote_commit =
      stored_at wet name local remote ids differ no_tag (commit_stored p.graph local local_commit)
      ∙ ap (λ (v : Verdict). Ok v) (yes_branch (is_commit p.graph local && is_commit p.graph remote) _ _ (join (is_commit p.graph local) (is_commit p.graph remote) local_commit remote_commit))

  -- ---- accepting rows

  pub nowhere_is : IsTaken p (value_of m.remote) → m.local ≡ None → verdict_of p s m ≡ Ok (nothing modes.NoChangeNeeded)
  unfolding at_destination
  nowhere_is taken none = taken_at taken ∙ ap at none

  pub absent_is : IsTaken p (value_of m.remote) → (r : IsAbsent p m) → verdict_of p s m ≡ Ok (created p.message r.name (value_of m.remote))
  unfolding at_name
  absent_is taken r = taken_at taken ∙ name_at r.name r.destination r.valid ∙ ap (at_name p s m r.name) r.absent ∙ valid_ok (value_of m.remote) _ r.writable

  pub unborn_is : IsTaken p (value_of m.remote) → (name target : List ℕ) → IsUnborn p m name target → IsWritable (value_of m.remote)
      → verdict_of p s m ≡ Ok (written p.message (place_of s m name (Symbolic target)) (unborn_mode (Symbolic target) (source_target m.remote)) change_unborn)
  unborn_is taken name target unborn writable = taken_at taken ∙ unborn_at name target unborn ∙ valid_ok (value_of m.remote) _ writable

  pub one_is : IsTaken p (value_of m.remote) → (r : HasOneId p m) → verdict_of p s m ≡ Ok (written p.message (place_of s m r.name r.ids.found) modes.NoChangeNeeded no_update)
  unfolding at_id
  one_is taken r = taken_at taken ∙ ids_at r.name r.id r.id r.ids ∙ yes_branch (eq_by_cmp id_cmp r.id r.id) _ _ (tied r.id r.id refl)

  pub tag_is : IsTaken p (value_of m.remote) → (r : ReplacesTag p s m) → verdict_of p s m ≡ Ok (written p.message (place_of s m r.name r.ids.found) modes.Forced updating_tag)
  tag_is taken r = taken_at taken ∙ tag_at r.name r.local r.remote r.ids r.differ r.tag ∙ ap (λ (v : Verdict). Ok v) (yes_branch (is_forced s.mode) _ _ r.plus)

  pub guessed_is : p.dry_run ≡ true → (r : IsGuessed p m) → verdict_of p s m ≡ Ok (written p.message (place_of s m r.name r.ids.found) modes.FastForward guessed)
  guessed_is dry r = taken_at (inl dry) ∙ moved_at r.name r.local r.remote r.ids r.differ ∙ no_branch (is_tag r.name) _ _ r.no_tag ∙ yes_branch p.dry_run _ _ dry

  pub forward_is : p.dry_run ≡ false → IsTaken p (value_of m.remote) → (r : MovesForward p m) → verdict_of p s m ≡ Ok (written p.message (place_of s m r.name r.ids.found) modes.FastForward fast_forward)
  forward_is wet taken r =
      taken_at taken ∙ commits_at wet r.name r.local r.remote r.ids r.differ r.no_tag r.local_commit r.remote_commit
      ∙ ap (λ (v : Verdict). Ok v) (yes_branch (is_ahead p.graph r.remote r.local) _ _ ((ahead_is p.graph r.remote r.local).1 r.path))

  replaced_at : (name : List ℕ) (local remote : ObjectId) (found : Target) → MayBeReplaced p s local remote → at_stored p (place_of s m name found) local remote ≡ written p.message (place_of s m name found) modes.Forced forced_update
  unfolding at_stored
  replaced_at name local remote found (inl (inl no_local)) = no_branch (is_commit p.graph local && is_commit p.graph remote) _ _ (not_true _ (λ e. no_local (left (is_commit p.graph local) (is_commit p.graph remote) e)))
  replaced_at name local remote found (inl (inr no_remote)) = no_branch (is_commit p.graph local && is_commit p.graph remote) _ _ (not_true _ (λ e. no_remote (right (is_commit p.graph local) (is_commit p.graph remote) e)))
  replaced_at name local remote found (inr (no_path, plus)) = by (is_commit p.graph local && is_commit p.graph remote)
    where
      by : (b : Bool)
          → (if b then
          (if is_ahead p.graph remote local then written p.message (place_of s m name found) modes.FastForward fast_forward
          else if is_forced s.mode then written p.message (place_of s m name found) modes.Forced forced_update
          else nothing modes.RejectedNonFastForward)
          else written p.message (place_of s m name found) modes.Forced forced_update)
          ≡ written p.message (place_of s m name found) modes.Forced forced_update
      by true =
          no_branch (is_ahead p.graph remote local) _ _ (not_true (is_ahead p.graph remote local) (λ e. no_path ((ahead_is p.graph remote local).0 e)))
          ∙ yes_branch (is_forced s.mode) _ _ plus
      by false = refl

  pub replaced_is : p.dry_run ≡ false → IsTaken p (value_of m.remote) → (r : Replaces p s m) → verdict_of p s m ≡ Ok (written p.message (place_of s m r.name r.ids.found) modes.Forced forced_update)
  replaced_is wet taken r =
      taken_at taken ∙ stored_at wet r.name r.local r.remote r.ids r.differ r.no_tag r.stored
      ∙ ap (λ (v : Verdict). Ok v) (replaced_at r.name r.local r.remote r.ids.found r.replaced)

  -- ---- what they tell

  tells : (mode : Mode) (name : List ℕ) (found : Target) (happened : List ℕ) → m.local ≡ Some name → Tells m mode (written p.message (place_of s m name found) mode happened)
  tells mode name found happened destination = record { told = refl; writes = sym (ap (option_map (λ _. value_of m.remote)) destination); name = sym destination }

  told_written : (mode : Mode) (name : List ℕ) (found : Target) (happened : List ℕ) → m.local ≡ Some name → verdict_of p s m ≡ Ok (written p.message (place_of s m name found) mode happened) → IsTold p s m mode
  told_written mode name found happened destination is = (written p.message (place_of s m name found) mode happened, is, tells mode name found happened destination)

  told_nowhere : IsTaken p (value_of m.remote) → m.local ≡ None → IsTold p s m modes.NoChangeNeeded
  told_nowhere taken none = (nothing modes.NoChangeNeeded, nowhere_is taken none, record { told = refl; writes = sym (ap (option_map (λ _. value_of m.remote)) none); name = sym none })

  told_absent : IsTaken p (value_of m.remote) → IsAbsent p m → IsTold p s m modes.New
  told_absent taken r =
      (created p.message r.name (value_of m.remote), absent_is taken r, record { told = refl; writes = sym (ap (option_map (λ _. value_of m.remote)) r.destination); name = sym r.destination })

  told_unborn : (mode : Mode) (name target : List ℕ) → IsTaken p (value_of m.remote) → IsUnborn p m name target → IsWritable (value_of m.remote) → unborn_mode (Symbolic target) (source_target m.remote) ≡ mode → IsTold p s m mode
  told_unborn mode name target taken unborn writable is =
      told_written mode name (Symbolic target) change_unborn unborn.stands.destination
      (unborn_is taken name target unborn writable ∙ ap (λ (k : Mode). Ok (written p.message (place_of s m name (Symbolic target)) k change_unborn)) is)

  told_same : IsTaken p (value_of m.remote) → NamesTheSame p m → IsTold p s m modes.NoChangeNeeded
  told_same taken r =
      told_unborn modes.NoChangeNeeded r.name r.target taken r.unborn r.writable
      (ap (unborn_mode (Symbolic r.target)) r.same ∙ yes_branch (bytes_eq r.target r.target) modes.NoChangeNeeded modes.Forced ((bytes_eq-Decides r.target r.target).1 refl))

  another : (target : List ℕ) (o : Option (List ℕ)) → o ≢ Some target → unborn_mode (Symbolic target) o ≡ modes.Forced
  another target None other = refl
  another target (Some t) other =
      no_branch (bytes_eq target t) modes.NoChangeNeeded modes.Forced (not_true (bytes_eq target t) (λ e. other (ap (λ (x : List ℕ). Some x) (sym ((bytes_eq-Decides target t).0 e)))))

  told_another : IsTaken p (value_of m.remote) → NamesAnother p m → IsTold p s m modes.Forced
  told_another taken r = told_unborn modes.Forced r.name r.target taken r.unborn r.writable (another r.target (source_target m.remote) r.other)

  told_one : IsTaken p (value_of m.remote) → HasOneId p m → IsTold p s m modes.NoChangeNeeded
  told_one taken r = told_written modes.NoChangeNeeded r.name r.ids.found no_update r.ids.stands.destination (one_is taken r)

  told_tag : IsTaken p (value_of m.remote) → ReplacesTag p s m → IsTold p s m modes.Forced
  told_tag taken r = told_written modes.Forced r.name r.ids.found updating_tag r.ids.stands.destination (tag_is taken r)

  told_row : p.dry_run ≡ false → IsTaken p (value_of m.remote) → (mode : Mode) → HasRow p s m mode → IsTold p s m mode
  told_row wet taken modes.NoChangeNeeded (inl none) = told_nowhere taken none
  told_row wet taken modes.NoChangeNeeded (inr (inl r)) = told_same taken r
  told_row wet taken modes.NoChangeNeeded (inr (inr r)) = told_one taken r
  told_row wet taken modes.New r = told_absent taken r
  told_row wet taken modes.FastForward r = told_written modes.FastForward r.name r.ids.found fast_forward r.ids.stands.destination (forward_is wet taken r)
  told_row wet taken modes.Forced (inl r) = told_another taken r
  told_row wet taken modes.Forced (inr (inl r)) = told_tag taken r
  told_row wet taken modes.Forced (inr (inr r)) = told_written modes.Forced r.name r.ids.found forced_update r.ids.stands.destination (replaced_is wet taken r)
  told_row wet taken modes.ImplicitTagNotSentByRemote r = absurd r
  told_row wet taken (modes.RejectedSourceObjectNotFound id) r = absurd r
  told_row wet taken modes.RejectedTagUpdate r = absurd r
  told_row wet taken modes.RejectedNonFastForward r = absurd r
  told_row wet taken modes.RejectedToReplaceWithUnborn r = absurd r
  told_row wet taken (modes.RejectedCurrentlyCheckedOut dirs) r = absurd r

  pub accepted_told : p.dry_run ≡ false → (mode : Mode) → Accepts p s m mode → IsTold p s m mode
  accepted_told wet mode a = told_row wet (inr a.sent) mode a.row

  pub guessed_told : p.dry_run ≡ true → (mode : Mode) → HasDryRow p s m mode → IsTold p s m mode
  guessed_told dry modes.NoChangeNeeded (inl none) = told_nowhere (inl dry) none
  guessed_told dry modes.NoChangeNeeded (inr (inl r)) = told_same (inl dry) r
  guessed_told dry modes.NoChangeNeeded (inr (inr r)) = told_one (inl dry) r
  guessed_told dry modes.New r = told_absent (inl dry) r
  guessed_told dry modes.FastForward r = told_written modes.FastForward r.name r.ids.found guessed r.ids.stands.destination (guessed_is dry r)
  guessed_told dry modes.Forced (inl r) = told_another (inl dry) r
  guessed_told dry modes.Forced (inr r) = told_tag (inl dry) r
  guessed_told dry modes.ImplicitTagNotSentByRemote r = absurd r
  guessed_told dry (modes.RejectedSourceObjectNotFound id) r = absurd r
  guessed_told dry modes.RejectedTagUpdate r = absurd r
  guessed_told dry modes.RejectedNonFastForward r = absurd r
  guessed_told dry modes.RejectedToReplaceWithUnborn r = absurd r
  guessed_told dry (modes.RejectedCurrentlyCheckedOut dirs) r = absurd r

  -- ---- rejecting rows

  missing_is : (id : ObjectId) → IsMissing p m id → verdict_of p s m ≡ Ok (nothing (unsent_mode p.tags s id))
  unfolding verdict_of unsent
  missing_is id r =
      ap (λ (o : Option ObjectId). unless_unsent p s o (at m.local)) (ap (unsent p) r.remote_id ∙ no_branch (p.dry_run || is_stored p.graph id) None (Some id) (neither p.dry_run (is_stored p.graph id) r.asked r.absent))
    where
      neither : (a b : Bool) → a ≡ false → b ≡ false → (a || b) ≡ false
      neither true b e f = never (sym e)
      neither false b e f = f

  pub unrelated_is : IsUnrelatedTag p s m → verdict_of p s m ≡ Ok (nothing modes.ImplicitTagNotSentByRemote)
  unfolding unsent_mode
  unrelated_is r =
      missing_is r.id r.missing
      ∙ ap (λ (k : Mode). Ok (nothing k))
      (yes_branch (is_included p.tags && is_tag_spec s) _ _ (join (is_included p.tags) (is_tag_spec s) (ap is_included r.tags.0) ((is_the_tag_spec s).1 r.tags.1)))

  pub not_found_is : (id : ObjectId) → IsNotFound p s m id → verdict_of p s m ≡ Ok (nothing (modes.RejectedSourceObjectNotFound id))
  unfolding unsent_mode
  not_found_is id r =
      missing_is id r.missing
      ∙ ap (λ (k : Mode). Ok (nothing k))
      (no_branch (is_included p.tags && is_tag_spec s) _ _
      (not_true _ (λ e. r.others (included_is p.tags (left (is_included p.tags) (is_tag_spec s) e), (is_the_tag_spec s).0 (right (is_included p.tags) (is_tag_spec s) e)))))

  pub checked_out_is : (dirs : List (List ℕ)) → IsTaken p (value_of m.remote) → IsCheckedOut p m dirs → verdict_of p s m ≡ Ok (nothing (modes.RejectedCurrentlyCheckedOut dirs))
  unfolding at_place
  checked_out_is dirs taken r =
      taken_at taken ∙ place_at r.name r.found r.destination r.valid r.there ∙ yes_branch (is_checked_out p.worktrees r.name) _ _ r.somewhere
      ∙ ap (λ (ds : List (List ℕ)). Ok (nothing (modes.RejectedCurrentlyCheckedOut ds))) (sym r.directories)

  pub loses_is : LosesId p m → verdict_of p s m ≡ Ok (nothing modes.RejectedToReplaceWithUnborn)
  unfolding at_local at_id
  loses_is r =
      taken_at (symbolic_taken (value_of m.remote) r.remote)
      ∙ stands_at r.name r.found r.stands ∙ ap (at_local p (place_of s m r.name r.found)) r.local_id ∙ ap (at_id p (place_of s m r.name r.found) r.local) r.remote
    where
      symbolic_taken : (value : Target) → value ≡ Symbolic r.wanted → IsTaken p value
      symbolic_taken (Symbolic name) is = inr tt
      symbolic_taken (Object id) is = absurd cc

  pub kept_tag_is : IsTaken p (value_of m.remote) → KeepsTag p s m → verdict_of p s m ≡ Ok (nothing modes.RejectedTagUpdate)
  kept_tag_is taken r = taken_at taken ∙ tag_at r.name r.local r.remote r.ids r.differ r.tag ∙ ap (λ (v : Verdict). Ok v) (no_branch (is_forced s.mode) _ _ r.no_plus)

  pub aside_is : IsTaken p (value_of m.remote) → MovesAside p s m → verdict_of p s m ≡ Ok (nothing modes.RejectedNonFastForward)
  aside_is taken r =
      taken_at taken ∙ commits_at r.asked r.name r.local r.remote r.ids r.differ r.no_tag r.local_commit r.remote_commit
      ∙ ap (λ (v : Verdict). Ok v)
      (no_branch (is_ahead p.graph r.remote r.local) _ _ (not_true (is_ahead p.graph r.remote r.local) (λ e. r.no_path ((ahead_is p.graph r.remote r.local).0 e)))
      ∙ no_branch (is_forced s.mode) _ _ r.no_plus)

  pub rejected_told : (mode : Mode) → Rejects p s m mode → verdict_of p s m ≡ Ok (nothing mode)
  rejected_told modes.ImplicitTagNotSentByRemote r = unrelated_is r
  rejected_told (modes.RejectedSourceObjectNotFound id) r = not_found_is id r
  rejected_told (modes.RejectedCurrentlyCheckedOut dirs) (taken, r) = checked_out_is dirs taken r
  rejected_told modes.RejectedToReplaceWithUnborn r = loses_is r
  rejected_told modes.RejectedTagUpdate (taken, r) = kept_tag_is taken r
  rejected_told modes.RejectedNonFastForward (taken, r) = aside_is taken r
  rejected_told modes.NoChangeNeeded r = absurd r
  rejected_told modes.New r = absurd r
  rejected_told modes.FastForward r = absurd r
  rejected_told modes.Forced r = absurd r

  -- ---- refusals

  bad_destination_is : (text : List ℕ) → IsTaken p (value_of m.remote) → HasBadDestination m text → verdict_of p s m ≡ Err (errors.FindReference text)
  unfolding at_destination
  bad_destination_is text taken r = taken_at taken ∙ ap at r.destination ∙ no_branch (is_full_name text) _ _ r.invalid

  bad_target_is : (text : List ℕ) → HasBadTarget p m text → verdict_of p s m ≡ Err (errors.InvalidRefName text)
  unfolding at_name
  bad_target_is text r = taken_at (symbolic_taken (value_of m.remote) r.remote) ∙ by r.written
    where
      symbolic_taken : (value : Target) → value ≡ Symbolic text → IsTaken p value
      symbolic_taken (Symbolic name) is = inr tt
      symbolic_taken (Object id) is = absurd cc

      by : (finmap.get p.names r.name ≡ None) ⊎ ((target : List ℕ) × IsUnborn p m r.name target) → at m.local ≡ Err (errors.InvalidRefName text)
      by (inl none) = name_at r.name r.destination r.valid ∙ ap (at_name p s m r.name) none ∙ invalid_err (value_of m.remote) _ text r.remote r.invalid
      by (inr (target, unborn)) = unborn_at r.name target unborn ∙ invalid_err (value_of m.remote) _ text r.remote r.invalid

  nowhere_err : (name : List ℕ) (found : Target) (cause : RefError) → ((end : List ℕ) → cause ≢ ref_errors.Unborn end) → at_local p (place_of s m name found) (Err cause) ≡ Err (errors.PeelToId name cause)
  unfolding at_local
  nowhere_err name found (ref_errors.Unborn end) born = absurd (born end refl)
  nowhere_err name found (ref_errors.Expectation i f) born = refl
  nowhere_err name found (ref_errors.Cycle n) born = refl
  nowhere_err name found (ref_errors.Depth n) born = refl
  nowhere_err name found (ref_errors.MissingObject id) born = refl
  nowhere_err name found (ref_errors.TagCycle id) born = refl
  nowhere_err name found ref_errors.NoMemory born = refl

  leads_nowhere_is : (name : List ℕ) (cause : RefError) → IsTaken p (value_of m.remote) → LeadsNowhere p m name cause → verdict_of p s m ≡ Err (errors.PeelToId name cause)
  leads_nowhere_is name cause taken r = taken_at taken ∙ stands_at name r.found r.stands ∙ ap (at_local p (place_of s m name r.found)) r.fails ∙ nowhere_err name r.found cause r.born

  lacks_local_is : (id : ObjectId) → IsTaken p (value_of m.remote) → LacksLocal p m id → verdict_of p s m ≡ Err (errors.FindCommit id)
  lacks_local_is id taken r = taken_at taken ∙ asked_at r.asked r.name id r.remote r.ids r.differ r.no_tag ∙ no_branch (is_stored p.graph id) _ _ r.absent

  pub refused_told : (e : Error) → Refuses p m e → verdict_of p s m ≡ Err e
  refused_told (errors.FindReference text) (taken, r) = bad_destination_is text taken r
  refused_told (errors.InvalidRefName text) r = bad_target_is text r
  refused_told (errors.PeelToId name cause) (taken, r) = leads_nowhere_is name cause taken r
  refused_told (errors.FindCommit id) (taken, r) = lacks_local_is id taken r
  refused_told errors.WorktreeListing r = absurd r
  refused_told errors.OpenWorktreeRepo r = absurd r
  refused_told errors.FollowSymref r = absurd r
  refused_told errors.NoMemory r = absurd r
