-- What a fetch that was applied took, judged and moved.
use Rattle.std.proofs.Common.{◌≡◌, ◌≢◌, ℕ, Bool, true, false, List, [], ◌∷◌, Option, Some, None, Result, Ok, Err, refl, sym, ap, ◌∙◌, subst, Contains, arith, inl, inr}
use Rattle.std.specs.Prelude.{◌⊎◌, ◌||◌, IfErr, ⊤, is_some, unwrap_or}
use Rattle.std.specs.FinMap as map
use Rattle.std.proofs.lemmas.Bool.{OnFalse_at}
use Rattle.fetch_base.specs.Answers.{AnswersUnless}
use Rattle.fetch_objects.specs.Objects.{Stored}
use Rattle.std.specs.List.{slice_get}
use Rattle.std.proofs.lemmas.List.Elements.{All-contains}
use Rattle.fetch_base.specs.declared.id.ObjectId.{ObjectId}
use Rattle.fetch_store.specs.declared.missing.Missing.{Missing}
use Rattle.fetch_store.specs.Closed.{IsClosed, IsStored, Grows}
use Rattle.fetch_store.specs.Missing.{missing}
use Rattle.fetch_store.specs.Stores.{ObjectMap, add_all, collision}
use Rattle.fetch_files.specs.Trees.{Tree}
use Rattle.fetch_store.proofs.Growth.{grows-add_all}
use Rattle.fetch_store.proofs.Whole.{whole_closed, none_connects, none_held}
use Rattle.fetch_refs.specs.Expectations.{refusal_of}
use Rattle.fetch_update.proofs.Wholes.{none_refused}
use Rattle.fetch_update.specs.Outcomes.{outcome_of}
use Rattle.fetch_update.specs.Policy.{Policy}
use Rattle.fetch_update.specs.declared.update.Error.{Error as UpdateError}
use Rattle.fetch_update.specs.declared.update.Error.TheVariants as update_errors
use Rattle.fetch_update.specs.declared.update.Outcome.{Outcome as Updates}
use Rattle.fetch_update.specs.declared.worktrees.Worktree.{Worktree}
use Rattle.fetch_map.specs.declared.mapping.RefMap.{RefMap}
use Rattle.fetch_conversation.specs.ListStage.{ListedValue}
use Rattle.fetch_conversation.specs.declared.conversing.Received.{Received}
use Rattle.fetch_conversation.specs.declared.fetch.Error.{Error}
use Rattle.fetch_conversation.specs.declared.fetch.Error.TheVariants as errors
use Rattle.fetch_remote.specs.declared.fetching.outcome.Outcome.{Outcome}
use Rattle.fetch_remote.specs.declared.fetching.outcome.Status.{Status}
use Rattle.fetch_remote.specs.declared.fetching.applying.ApplyOptions.{ApplyOptions}
use Rattle.fetch_remote.specs.Fetched.{HoldsMapped, objects_with, border_with}
use Rattle.fetch_remote.specs.Blame.{fault_in, keep_fault_in}
use Rattle.fetch_remote.specs.Errors.{is_memory}
use Rattle.fetch_remote.specs.Form.{Given}
use Rattle.fetch_remote.specs.Judging.{judged_as, judged_of, is_free_judging, IsTold, Judges}
use Rattle.fetch_remote.specs.Repositories.{State, Setup, held}
use Rattle.fetch_remote.specs.Keeping.{AreFiles, IsUnmade, made, with_keep}
use Rattle.fetch_remote.specs.Applying.{◌>>=◌, unless_hit, unless_missing, to_take, keep_of, pack_of, after_take, taken, policy_in, moved, outcome_in, status_of, status_by, told_of, released_of, done, applied, IsOfJudging, is_early, is_free_taking, is_free_applying, LacksKeepFile, HasKeepFile, IsReplyTaken, AreRefsMoved, IsUntaken, IsUnreleased, IsUnappliedBy}
use Rattle.fetch_remote.proofs.Blamed.{tells_no_trees, tells_no_keep}
use Rattle.fetch_remote.proofs.Keeping.{files_same, same_files, status_is, removed_is, gone_made}
use Rattle.fetch_remote.specs.Stages.{wants_in}
use Rattle.fetch_remote.proofs.Wanted.{stored_or_wanted}

-- ---- what was taken, judged and moved

pub record AppliedAs (setup : Setup) (how : ApplyOptions) (trees : List Worktree) (before : State) (wants : List ObjectId) (l : ListedValue) (r : Option Received) (outcome : Outcome) (after : State) : Type 0 where
  pub state : State
  pub updates : Updates
  pub took : taken before wants (to_take how.dry_run r) ≡ Ok state
  pub judged : judged_of (policy_in state how trees) l.ref_map ≡ Ok updates
  pub outcome_is : outcome ≡ outcome_in setup.settings.git_dir how l r updates
  pub after_is : after ≡ moved how.dry_run how.packed setup state updates.edits

pub applied_as : (setup : Setup) (how : ApplyOptions) (trees : List Worktree) (before : State) (wants : List ObjectId) (l : ListedValue) (r : Option Received) (outcome : Outcome) (after : State) → applied setup how trees before wants l r ≡ Ok (outcome, after)
    → AppliedAs setup how trees before wants l r outcome after
unfolding applied
applied_as setup how trees before wants l r outcome after = by_taken (taken before wants (to_take how.dry_run r)) refl
  where
    by_judged : (s : State) → taken before wants (to_take how.dry_run r) ≡ Ok s → (j : Result Updates Error) → judged_of (policy_in s how trees) l.ref_map ≡ j → (j >>= λ u. Ok (done setup how l r s u)) ≡ Ok (outcome, after)
        → AppliedAs setup how trees before wants l r outcome after
    by_judged s took (Ok u) judged is =
        let p : done setup how l r s u ≡ (outcome, after) = cc in
        record { state = s; updates = u; took = took; judged = judged; outcome_is = sym (ap (λ (x : Outcome × State). x.0) p); after_is = sym (ap (λ (x : Outcome × State). x.1) p) }
    by_judged s took (Err e) judged is = absurd (cc)

    by_taken : (t : Result State Error) → taken before wants (to_take how.dry_run r) ≡ t → (t >>= λ s. judged_of (policy_in s how trees) l.ref_map >>= λ u. Ok (done setup how l r s u)) ≡ Ok (outcome, after)
        → AppliedAs setup how trees before wants l r outcome after
    by_taken (Ok s) took is = by_judged s took (judged_of (policy_in s how trees) l.ref_map) refl is
    by_taken (Err e) took is = absurd (cc)

pub applies : (setup : Setup) (how : ApplyOptions) (trees : List Worktree) (before : State) (wants : List ObjectId) (l : ListedValue) (r : Option Received) (s : State) (u : Updates) (status : Status) (after : State)
    → taken before wants (to_take how.dry_run r) ≡ Ok s → judged_of (policy_in s how trees) l.ref_map ≡ Ok u → status ≡ status_by how.dry_run (told_of setup.settings.git_dir how.dry_run r) u → after ≡ moved how.dry_run how.packed setup s u.edits
    → applied setup how trees before wants l r ≡ Ok (record { ref_map = l.ref_map; handshake = l.handshake; status = status }, after)
unfolding applied
applies setup how trees before wants l r s u status after took judged told is = rw (took, judged, told, is, status_is setup.settings.git_dir how.dry_run r u) refl

-- a list that may be the one that is told
abbrev pub list_of : Option (List Worktree) → List Worktree
list_of known = unwrap_or known []

pub list_told : (known : Option (List Worktree)) → IsTold known (list_of known)
list_told (Some trees) = refl
list_told None = tt

-- ---- the taking is refused

either_false : (a b : Bool) → (a || b) ≡ false → (a ≡ false) × (b ≡ false)
either_false false b h = (refl, h)
either_false true b h = absurd (cc)

-- what the taking may answer
abbrev IsOfTaking : Error → Type 0
IsOfTaking (errors.Collision id) = ⊤
IsOfTaking (errors.Disconnected link) = ⊤
IsOfTaking errors.NoMemory = ⊤
IsOfTaking e = ⊥

taking_by : (hit : Option ObjectId) (m : Option Missing) (s : State) (e : Error) → (unless_hit hit >>= λ _. unless_missing m >>= λ _. Ok s) ≡ Err e → IsOfTaking e
taking_by (Some id) m s e is = let h : e ≡ errors.Collision id = cc in rw h tt
taking_by None (Some link) s e is = let h : e ≡ errors.Disconnected link = cc in rw h tt
taking_by None None s e is = absurd (cc)

of_taking : (before : State) (wants : List ObjectId) (r : Option Received) (e : Error) → taken before wants r ≡ Err e → IsOfTaking e
of_taking before wants None e is = absurd (cc)
of_taking before wants (Some r) e is = taking_by (collision before.objects r.objects) (slice_get (missing (held before) wants (pack_of r)) 0) (after_take before (pack_of r)) e is

-- the taking answers no refusal of another step
pub taking_only : (before : State) (wants : List ObjectId) (r : Option Received) (e x : Error) → taken before wants r ≡ Err e → e ≡ x → IsOfTaking x
taking_only before wants r e x is same = subst IsOfTaking same (of_taking before wants r e is)

pub never_unmade : (before : State) (wants : List ObjectId) (r : Option Received) (e : Error) (path : List ℕ) → AnswersUnless {A = State} is_memory (taken before wants r) (Err e) → e ≡ errors.KeepFile path → ⊥
never_unmade before wants r e path h is = of_taking before wants r (errors.KeepFile path) (rw is at h)

-- the taking was refused before any call of the files
pub untaken_early : (before : State) (wants : List ObjectId) (r : Option Received) (keep : Option (List ℕ)) (files : Option Tree) (e : Error) → AnswersUnless {A = State} is_memory (taken before wants r) (Err e) → IsUntaken (taken before wants r) keep files files e
untaken_early before wants r keep files e h = record {
  why = λ sure. (fails_for (taken before wants r) e sure h, refl);
  making = λ path is. absurd (never_unmade before wants r e path h is);
  stands = inl refl;
}
  where
    fails_for : (x : Result State Error) (e : Error) → is_free_taking e ≡ false → AnswersUnless {A = State} is_memory x (Err e) → x ≡ Err e
    fails_for x (errors.NoMapping specs count) sure h = h
    fails_for x (errors.IncompatibleObjectHash local remote) sure h = h
    fails_for x (errors.Disconnected link) sure h = h
    fails_for x (errors.RejectShallowRemoteConfig value) sure h = h
    fails_for x (errors.NegotiationAlgorithmConfig value) sure h = h
    fails_for x (errors.PackThreads value) sure h = h
    fails_for x (errors.Fetch e) sure h = h
    fails_for x errors.Client sure h = h
    fails_for x errors.Interrupted sure h = h
    fails_for x (errors.RejectShallowRemote id) sure h = h
    fails_for x (errors.Pack e) sure h = h
    fails_for x (errors.Collision id) sure h = h
    fails_for x (errors.KeepFile path) sure h = absurd (cc)
    fails_for x (errors.UpdateRefs e) sure h = h
    fails_for x (errors.RemovePackKeepFile path) sure h = h
    fails_for x errors.NoMemory sure h = absurd (cc)

-- the keep file couldn't be made
pub untaken_making : (before : State) (wants : List ObjectId) (r : Received) (s : State) (git_dir : List ℕ) (files left : Option Tree) (e : Error) → taken before wants (Some r) ≡ Ok s → IsUnmade (made git_dir r.pack) files left e
    → IsUntaken (taken before wants (Some r)) (made git_dir r.pack) files left e
untaken_making before wants r s git_dir files left e took h =
    let m : LacksKeepFile (taken before wants (Some r)) (made git_dir r.pack) h.path files left = record { state = s; took = took; made = h.made; same_files = h.same_files } in
    record { why = λ sure. absurd (no_cause e h.path sure h.why); making = λ path is. making_at path is h.why m; stands = inl h.same_files }
  where
    no_cause : (e : Error) (path : List ℕ) → is_free_taking e ≡ false → (e ≡ errors.KeepFile path) ⊎ (e ≡ errors.NoMemory) → ⊥
    no_cause e path sure (inl is) = let k : true ≡ false = sym (ap is_free_taking is) ∙ sure in cc
    no_cause e path sure (inr is) = let k : true ≡ false = sym (ap is_free_taking is) ∙ sure in cc

    making_at : (path : List ℕ) → e ≡ errors.KeepFile path → (e ≡ errors.KeepFile h.path) ⊎ (e ≡ errors.NoMemory) → LacksKeepFile (taken before wants (Some r)) (made git_dir r.pack) h.path files left
        → LacksKeepFile (taken before wants (Some r)) (made git_dir r.pack) path files left
    making_at path is (inl by) m = let same : h.path ≡ path = cc in subst (λ (x : List ℕ). LacksKeepFile (taken before wants (Some r)) (made git_dir r.pack) x files left) same m
    making_at path is (inr by) m = absurd (cc)

-- memory ran out after the making
pub untaken_behind : (before : State) (wants : List ObjectId) (r : Received) (s : State) (git_dir : List ℕ) (files left : Option Tree) → taken before wants (Some r) ≡ Ok s → AreFiles files left (with_keep (made git_dir r.pack))
    → IsUntaken (taken before wants (Some r)) (made git_dir r.pack) files left errors.NoMemory
untaken_behind before wants r s git_dir files left took h = record { why = λ sure. absurd (cc); making = λ path is. absurd (cc); stands = stands (made git_dir r.pack) h }
  where
    stands : (keep : Option (List ℕ)) → AreFiles files left (with_keep keep) → (left ≡ files) ⊎ ((path : List ℕ) × HasKeepFile (taken before wants (Some r)) keep path files left)
    stands None k = inl (files_same files left k)
    stands (Some path) k = inr (path, record { state = s; took = took; made = refl; stands = k })

pub untaken : (setup : Setup) (how : ApplyOptions) (trees : List Worktree) (before : State) (wants : List ObjectId) (l : ListedValue) (r : Option Received) (files left : Option Tree) (e : Error)
    → IsUntaken (taken before wants (to_take how.dry_run r)) (keep_of setup how r) files left e
    → IsUnappliedBy (applied setup how trees before wants l r) (taken before wants (to_take how.dry_run r)) (keep_of setup how r) setup.settings.git_dir files left before before e
unfolding applied
untaken setup how trees before wants l r files left e h = record {
  why = λ sure.
      let k = h.why (either_false (is_free_taking e) _ sure).0 in
      (rw k.0 refl, rw k.0 refl, rw (k.0, k.1) (same_files files));
  stands = λ _. inl (refl, h.stands);
  unlisted = λ fault faulty is. absurd (only (errors.UpdateRefs fault) refl is);
  making = λ path is. (refl, h.making path is);
  moved = λ path is. absurd (only (errors.RemovePackKeepFile path) refl is);
  unheard = (λ is. only errors.Client refl is, λ is. only errors.Interrupted refl is);
}
  where
    only : (x : Error) → is_free_taking x ≡ false → e ≡ x → IsOfTaking x
    only x sure is = taking_only before wants (to_take how.dry_run r) e x (h.why (ap is_free_taking is ∙ sure)).0 is

-- a taking that is refused tells no fault of the work trees
pub untaken_trees : (before : State) (wants : List ObjectId) (r : Option Received) (keep : Option (List ℕ)) (files left : Option Tree) (e : Error) → IsUntaken (taken before wants r) keep files left e → fault_in e ≡ None
untaken_trees before wants r keep files left e h = tells_no_trees e (λ cause is. taking_only before wants r e (errors.UpdateRefs cause) (h.why (ap is_free_taking is)).0 is)

-- nor a keep file, before any call of the files
pub refused_keep : (before : State) (wants : List ObjectId) (r : Option Received) (e : Error) → AnswersUnless {A = State} is_memory (taken before wants r) (Err e) → keep_fault_in e ≡ None
refused_keep before wants r e h = tells_no_keep e (λ path is. never_unmade before wants r e path h is) (λ path is. of_taking before wants r (errors.RemovePackKeepFile path) (rw is at h))

-- ---- judging is refused after the taking

told_of_judging : (o : Result Updates UpdateError) (e : Error) → judged_as o ≡ Err e → IsOfJudging e
told_of_judging (Ok u) e is = absurd (cc)
told_of_judging (Err update_errors.NoMemory) e is = inl (cc)
told_of_judging (Err (update_errors.FindReference name)) e is = inr (update_errors.FindReference name, cc)
told_of_judging (Err (update_errors.InvalidRefName name)) e is = inr (update_errors.InvalidRefName name, cc)
told_of_judging (Err (update_errors.FindCommit id)) e is = inr (update_errors.FindCommit id, cc)
told_of_judging (Err (update_errors.PeelToId name cause)) e is = inr (update_errors.PeelToId name cause, cc)
told_of_judging (Err update_errors.WorktreeListing) e is = inr (update_errors.WorktreeListing, cc)
told_of_judging (Err update_errors.OpenWorktreeRepo) e is = inr (update_errors.OpenWorktreeRepo, cc)
told_of_judging (Err update_errors.FollowSymref) e is = inr (update_errors.FollowSymref, cc)

of_judging : (p : Policy) (m : RefMap) (e : Error) → judged_of p m ≡ Err e → IsOfJudging e
unfolding judged_of
of_judging p m e is = told_of_judging (outcome_of p m.refspecs m.extra_refspecs m.mappings) e is

-- what judging may answer
pub judging_told : (p : Policy) (m : RefMap) (e : Error) → AnswersUnless {A = Updates} is_free_judging (judged_of p m) (Err e) → IsOfJudging e
judging_told p m (errors.NoMapping specs count) h = of_judging p m (errors.NoMapping specs count) h
judging_told p m (errors.IncompatibleObjectHash local remote) h = of_judging p m (errors.IncompatibleObjectHash local remote) h
judging_told p m (errors.Disconnected link) h = of_judging p m (errors.Disconnected link) h
judging_told p m (errors.RejectShallowRemoteConfig value) h = of_judging p m (errors.RejectShallowRemoteConfig value) h
judging_told p m (errors.NegotiationAlgorithmConfig value) h = of_judging p m (errors.NegotiationAlgorithmConfig value) h
judging_told p m (errors.PackThreads value) h = of_judging p m (errors.PackThreads value) h
judging_told p m (errors.Fetch e) h = of_judging p m (errors.Fetch e) h
judging_told p m errors.Client h = of_judging p m errors.Client h
judging_told p m errors.Interrupted h = of_judging p m errors.Interrupted h
judging_told p m (errors.RejectShallowRemote id) h = of_judging p m (errors.RejectShallowRemote id) h
judging_told p m (errors.Pack e) h = of_judging p m (errors.Pack e) h
judging_told p m (errors.Collision id) h = of_judging p m (errors.Collision id) h
judging_told p m (errors.KeepFile path) h = of_judging p m (errors.KeepFile path) h
judging_told p m (errors.UpdateRefs e) h = inr (e, refl)
judging_told p m (errors.RemovePackKeepFile path) h = of_judging p m (errors.RemovePackKeepFile path) h
judging_told p m errors.NoMemory h = inl refl

pub told_only : (known : Option (List Worktree)) (policy : List Worktree → Policy) (m : RefMap) (result : Result Updates Error) → Judges known policy m result → IfErr result IsOfJudging
told_only known policy m (Ok u) h = tt
told_only known policy m (Err e) h = judging_told (policy h.trees) m e h.by

pub never_keeps : (e : Error) (path : List ℕ) → IsOfJudging e → e ≡ errors.KeepFile path → ⊥
never_keeps e path (inl is) same = absurd (cc)
never_keeps e path (inr (cause, is)) same = absurd (cc)

pub never_removes : (e : Error) (path : List ℕ) → IsOfJudging e → e ≡ errors.RemovePackKeepFile path → ⊥
never_removes e path (inl is) same = absurd (cc)
never_removes e path (inr (cause, is)) same = absurd (cc)

never_talks : (e : Error) → IsOfJudging e → (e ≢ errors.Client) × (e ≢ errors.Interrupted)
never_talks e (inl is) = (λ same. absurd (cc), λ same. absurd (cc))
never_talks e (inr (cause, is)) = (λ same. absurd (cc), λ same. absurd (cc))

pub never_early : (e : Error) → IsOfJudging e → is_early e ≡ true → ⊥
never_early e (inl is) early = let k : false ≡ true = sym (ap is_early is) ∙ early in cc
never_early e (inr (cause, is)) early = let k : false ≡ true = sym (ap is_early is) ∙ early in cc

judging_sure : (e : Error) → is_free_applying e ≡ false → is_free_judging e ≡ false
judging_sure (errors.NoMapping specs count) h = refl
judging_sure (errors.IncompatibleObjectHash local remote) h = refl
judging_sure (errors.Disconnected link) h = refl
judging_sure (errors.RejectShallowRemoteConfig value) h = refl
judging_sure (errors.NegotiationAlgorithmConfig value) h = refl
judging_sure (errors.PackThreads value) h = refl
judging_sure (errors.Fetch e) h = refl
judging_sure errors.Client h = absurd (cc)
judging_sure errors.Interrupted h = absurd (cc)
judging_sure (errors.RejectShallowRemote id) h = refl
judging_sure (errors.Pack e) h = refl
judging_sure (errors.Collision id) h = refl
judging_sure (errors.KeepFile path) h = absurd (cc)
judging_sure (errors.UpdateRefs e) h = h
judging_sure (errors.RemovePackKeepFile path) h = absurd (cc)
judging_sure errors.NoMemory h = absurd (cc)

pub unjudged : (setup : Setup) (how : ApplyOptions) (trees : List Worktree) (before : State) (wants : List ObjectId) (l : ListedValue) (r : Option Received) (files left : Option Tree) (mid : State) (e : Error) → taken before wants (to_take how.dry_run r) ≡ Ok mid
    → AreFiles files left (with_keep (keep_of setup how r)) → AnswersUnless {A = Updates} is_free_judging (judged_of (policy_in mid how trees) l.ref_map) (Err e)
    → IsUnappliedBy (applied setup how trees before wants l r) (taken before wants (to_take how.dry_run r)) (keep_of setup how r) setup.settings.git_dir files left before mid e
unfolding applied
unjudged setup how trees before wants l r files left mid e took kept h = record {
  why = λ sure.
      let k = OnFalse_at (judging_sure e sure) h in
      (rw (took, k) refl, rw took refl, rw took kept);
  stands = λ _. inr at;
  unlisted = λ fault faulty is. at;
  making = λ path is. absurd (never_keeps e path only is);
  moved = λ path is. absurd (never_removes e path only is);
  unheard = never_talks e only;
}
  where
    at : IsReplyTaken (taken before wants (to_take how.dry_run r)) (keep_of setup how r) files left mid
    at = record { took = took; kept = kept }

    only : IsOfJudging e
    only = judging_told (policy_in mid how trees) l.ref_map e h

-- the same over a map that is the one that was listed
pub unjudged_found : (setup : Setup) (how : ApplyOptions) (trees : List Worktree) (before : State) (wants : List ObjectId) (l : ListedValue) (r : Option Received) (files left : Option Tree) (mid : State) (e : Error) (m : RefMap) → m ≡ l.ref_map
    → taken before wants (to_take how.dry_run r) ≡ Ok mid → AreFiles files left (with_keep (keep_of setup how r)) → AnswersUnless {A = Updates} is_free_judging (judged_of (policy_in mid how trees) m) (Err e)
    → IsUnappliedBy (applied setup how trees before wants l r) (taken before wants (to_take how.dry_run r)) (keep_of setup how r) setup.settings.git_dir files left before mid e
unjudged_found setup how trees before wants l r files left mid e m same took kept h =
    unjudged setup how trees before wants l r files left mid e took kept (subst (λ (x : RefMap). AnswersUnless {A = Updates} is_free_judging (judged_of (policy_in mid how trees) x) (Err e)) same h)

-- ---- moving

-- memory ran out after the taking
pub unmoved : (setup : Setup) (how : ApplyOptions) (trees : List Worktree) (before : State) (wants : List ObjectId) (l : ListedValue) (r : Option Received) (files left : Option Tree) (mid : State) → taken before wants (to_take how.dry_run r) ≡ Ok mid
    → AreFiles files left (with_keep (keep_of setup how r)) → IsUnappliedBy (applied setup how trees before wants l r) (taken before wants (to_take how.dry_run r)) (keep_of setup how r) setup.settings.git_dir files left before mid errors.NoMemory
unmoved setup how trees before wants l r files left mid took kept = record {
  why = λ sure. absurd (cc);
  stands = λ _. inr (record { took = took; kept = kept });
  unlisted = λ fault faulty is. absurd (cc);
  making = λ path is. absurd (cc);
  moved = λ path is. absurd (cc);
  unheard = (λ is. absurd (cc), λ is. absurd (cc));
}

-- the references have moved, and the keep file couldn't be removed
pub unreleased : (setup : Setup) (how : ApplyOptions) (trees : List Worktree) (before : State) (wants : List ObjectId) (l : ListedValue) (r : Option Received) (files kept left : Option Tree) (mid : State) (u : Updates) (now : State) (e : Error)
    → taken before wants (to_take how.dry_run r) ≡ Ok mid → judged_of (policy_in mid how trees) l.ref_map ≡ Ok u → now ≡ moved how.dry_run how.packed setup mid u.edits
    → IsUnreleased (released_of u (told_of setup.settings.git_dir how.dry_run r)) e → AreFiles files kept (with_keep (keep_of setup how r)) → left ≡ kept
    → IsUnappliedBy (applied setup how trees before wants l r) (taken before wants (to_take how.dry_run r)) (keep_of setup how r) setup.settings.git_dir files left before now e
unreleased setup how trees before wants l r files kept left mid u now e took judged is h made same_left = rw h.1 (record {
  why = λ sure. absurd (cc);
  stands = λ sure. absurd (cc);
  unlisted = λ fault faulty same. absurd (cc);
  making = λ path same. absurd (cc);
  moved = λ path same. gone path same;
  unheard = (λ same. absurd (cc), λ same. absurd (cc));
})
  where
    dir : List ℕ
    dir = setup.settings.git_dir

    stays : AreFiles files left (with_keep (keep_of setup how r))
    stays = subst (λ (x : Option Tree). AreFiles files x (with_keep (keep_of setup how r))) (sym same_left) made

    gone : (path : List ℕ) → errors.RemovePackKeepFile h.0 ≡ errors.RemovePackKeepFile path → AreRefsMoved (applied setup how trees before wants l r) dir path files left now
    gone path same =
        let one : h.0 ≡ path = cc in
        let goes : released_of u (told_of dir how.dry_run r) ≡ Some path = h.2 ∙ ap (λ (x : List ℕ). Some x) one in
        record {
          outcome = outcome_in dir how l r u;
          by = applies setup how trees before wants l r mid u (status_of dir how.dry_run r u) now took judged (sym (status_is dir how.dry_run r u)) is;
          removed = removed_is dir how.dry_run r u ∙ goes;
          stands = subst (λ (x : Option (List ℕ)). AreFiles files left (with_keep x)) (gone_made dir how.dry_run r u path goes) stays;
        }

-- ---- what the taking leaves

pub record Took (before : State) (wants : List ObjectId) (r : Received) (s : State) : Type 0 where
  pub one_object : collision before.objects r.objects ≡ None
  pub connected : missing (held before) wants (pack_of r) ≡ []
  pub state : after_take before (pack_of r) ≡ s

pub took_pack : (before : State) (wants : List ObjectId) (r : Received) (s : State) → taken before wants (Some r) ≡ Ok s → Took before wants r s
took_pack before wants r s = by (collision before.objects r.objects) refl (missing (held before) wants (pack_of r)) refl
  where
    by : (c : Option ObjectId) → collision before.objects r.objects ≡ c → (m : List Missing) → missing (held before) wants (pack_of r) ≡ m
        → (unless_hit c >>= λ _. unless_missing (slice_get m 0) >>= λ _. Ok (after_take before (pack_of r))) ≡ Ok s → Took before wants r s
    by None hit [] links is = record { one_object = hit; connected = links; state = cc }
    by None hit (link ∷ others) links is = absurd (cc)
    by (Some id) hit m links is = absurd (cc)

pub record Takes (before : State) (r : Option Received) (s : State) : Type 0 where
  pub objects : s.objects ≡ objects_with before.objects r
  pub border : s.border ≡ border_with before.border r
  pub refs : s.refs ≡ before.refs
  pub hash : s.hash ≡ before.hash

pub takes : (before : State) (wants : List ObjectId) (r : Option Received) (s : State) → taken before wants r ≡ Ok s → Takes before r s
takes before wants None s is = let e : before ≡ s = cc in rw (← e) (record { objects = refl; border = refl; refs = refl; hash = refl })
takes before wants (Some r) s is =
    let e = (took_pack before wants r s is).state in
    rw (← e) (record { objects = refl; border = refl; refs = refl; hash = refl })

judged_ok : (o : Result Updates UpdateError) (u : Updates) → judged_as o ≡ Ok u → o ≡ Ok u
judged_ok (Ok v) u is = let e : v ≡ u = cc in ap Ok e
judged_ok (Err e) u is = absurd (cc)

pub judged_is : (p : Policy) (m : RefMap) (u : Updates) → judged_of p m ≡ Ok u → outcome_of p m.refspecs m.extra_refspecs m.mappings ≡ Ok u
unfolding judged_of
judged_is p m u is = judged_ok (outcome_of p m.refspecs m.extra_refspecs m.mappings) u is

-- the edits find what they expect in the references that they were judged over
pub finds_all : (s : State) (how : ApplyOptions) (trees : List Worktree) (m : RefMap) (u : Updates) → judged_of (policy_in s how trees) m ≡ Ok u → refusal_of s.refs.names u.edits ≡ None
finds_all s how trees m u is = none_refused (policy_in s how trees) m.refspecs m.extra_refspecs m.mappings u (judged_is (policy_in s how trees) m u is)

-- ---- closed, and all that is mapped held

pub stays_closed : (before : State) (wants : List ObjectId) (r : Option Received) (s : State) → taken before wants r ≡ Ok s → IsClosed (held before) → IsClosed (held s)
stays_closed before wants None s is closed = let e : before ≡ s = cc in rw (← e) closed
stays_closed before wants (Some r) s is closed =
    let t = took_pack before wants r s is in
    rw (← t.state) (whole_closed (held before) (pack_of r) closed (none_connects (held before) wants (pack_of r) t.connected))

grown : (old now : ObjectMap) (id : ObjectId) → Grows old now → (o : Option Stored) → map.get old id ≡ o → is_some o ≡ true → IsStored now id
grown old now id grows (Some o) found h = rw (grows.keeps id o found) refl
grown old now id grows None found h = absurd (cc)

no_member : (ids : List ObjectId) → ids ≡ [] → (id : ObjectId) → Contains ids id → ⊥
no_member [] is id h = absurd (omega (arith, h.1))
no_member (a ∷ ids) is id h = absurd (cc)

holds_each : (before : State) (wants : List ObjectId) (r : Option Received) (s : State) → taken before wants r ≡ Ok s → (r ≡ None → wants ≡ []) → (id : ObjectId) → IsStored before.objects id ⊎ Contains wants id → IsStored s.objects id
holds_each before wants None s is none id (inl stored) = let e : before ≡ s = cc in rw (← e) stored
holds_each before wants None s is none id (inr wanted) = absurd (no_member wants (none refl) id wanted)
holds_each before wants (Some r) s is none id (inl stored) = let t = took_pack before wants r s is in rw (← t.state) (grown before.objects _ id (grows-add_all before.objects r.objects) (map.get before.objects id) refl stored)
holds_each before wants (Some r) s is none id (inr wanted) =
    let t = took_pack before wants r s is in
    rw (← t.state) (All-contains (IsStored (add_all before.objects r.objects)) wants id (none_held (held before) wants (pack_of r) t.connected) wanted)

pub holds_mapped : (g : Given) (before : State) (m : RefMap) (r : Option Received) (s : State) → taken before (wants_in g before m) r ≡ Ok s → (r ≡ None → wants_in g before m ≡ []) → HoldsMapped g m s.objects
holds_mapped g before m r s is none = record {
  each = λ mapping id among aside has. holds_each before (wants_in g before m) r s is none id (stored_or_wanted m g.remote.tags g.options.shallow before.objects mapping id among aside has);
}
