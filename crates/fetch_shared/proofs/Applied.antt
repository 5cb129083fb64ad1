-- What is applied over a shared repository, and what is refused.
use Rattle.std.proofs.Common.{◌≡◌, ◌⊎◌, ℕ, Bool, true, false, List, ◌++◌, length, Option, None, Some, Ok, Err, refl, sym, ap, ◌∙◌, subst, inl, inr}
use Rattle.std.proofs.lemmas.Bool.{OnFalse_at}
use Rattle.std.specs.Prelude.{IfSome, slice_get, find}
use Rattle.std.specs.FinMap as finmap
use Rattle.std.specs.Option.{option_map, option_or}
use Rattle.fetch_base.specs.Answers.{AnswersUnless}
use Rattle.fetch_base.specs.declared.id.ObjectId.{ObjectId}
use Rattle.fetch_store.specs.declared.missing.Missing.{Missing}
use Rattle.fetch_store.specs.Closed.{Holding}
use Rattle.fetch_store.specs.Honest.{Pack}
use Rattle.fetch_store.specs.Missing.{missing}
use Rattle.fetch_store.specs.Stores.{AreOf, collision}
use Rattle.fetch_files.specs.FileCalls.{IsRefused as IsBlocked}
use Rattle.fetch_files.specs.Trees.{Tree}
use Rattle.fetch_pack.specs.Once.{AreNamed}
use Rattle.fetch_refs.specs.Expectations.{fails}
use Rattle.fetch_refs.specs.Names.{Names}
use Rattle.fetch_refs.specs.declared.edit.RefEdit.{RefEdit}
use Rattle.fetch_refs.specs.declared.log.Signature.{Signature}
use Rattle.fetch_refs.specs.declared.target.Target.{Target}
use Rattle.fetch_update.specs.Policy.{Policy, policy_over}
use Rattle.fetch_update.specs.declared.update.Error.{Error as UpdateError}
use Rattle.fetch_update.specs.declared.update.Outcome.{Outcome as Updates}
use Rattle.fetch_update.specs.declared.worktrees.Worktree.{Worktree}
use Rattle.fetch_lines.specs.declared.greetings.handshake.Handshake.{Handshake}
use Rattle.fetch_map.specs.declared.mapping.RefMap.{RefMap}
use Rattle.fetch_conversation.specs.Errors.{is_worktree_fault}
use Rattle.fetch_conversation.specs.declared.conversing.Received.{Received}
use Rattle.fetch_conversation.specs.declared.fetch.Error.{Error as ReceiveError}
use Rattle.fetch_conversation.specs.declared.fetch.Error.TheVariants as receive
use Rattle.fetch_remote.specs.Errors.{receiving}
use Rattle.fetch_remote.specs.Judging.{is_free_judging, judged_of}
use Rattle.fetch_remote.specs.Keeping.{AreFiles, made, made_in, with_keep, without_keep}
use Rattle.fetch_remote.specs.Applying.{to_take, pack_of, pack_read, pack_kept, policy_in, told_of, status_by, status_of, kept_of as kept_in, released_of, outcome_in, IsOfJudging}
use Rattle.fetch_remote.specs.declared.fetching.outcome.Outcome.{Outcome}
use Rattle.fetch_remote.specs.declared.fetching.outcome.Status.{Status}
use Rattle.fetch_remote.specs.declared.fetching.applying.TakenReply.{TakenReply as Told}
use Rattle.fetch_remote.proofs.Keeping.{status_is, made_is, made_none, kept_none, removed_is, left_files, removable}
use Rattle.fetch_remote.proofs.Applied.{judging_told}
use Rattle.fetch_shared.specs.declared.pack_taken.PackTaken.{PackTaken}
use Rattle.fetch_journal.specs.declared.entry.Entry.{Entry}
use Rattle.fetch_journal.specs.declared.entry.Entry.TheVariants as entries
use Rattle.fetch_journal.specs.declared.error.SharedError.{SharedError}
use Rattle.fetch_journal.specs.declared.error.SharedError.TheVariants as errors
use Rattle.fetch_journal.specs.declared.plan.Taken.{Taken}
use Rattle.fetch_shared.specs.declared.applying.Stop.{Stop}
use Rattle.fetch_shared.specs.declared.applying.Verdicts.{Verdicts}
use Rattle.fetch_shared.specs.PackTaken.{take_entries, HasTakenPack, IsPackUntaken}
use Rattle.fetch_journal.specs.Errors.{fetching}
use Rattle.fetch_journal.specs.Journals.{Begins, entries_of}
use Rattle.fetch_journal.specs.Machine.{held, take_refusal, commit_refusal}
use Rattle.fetch_journal.specs.Machine.Event.{Take, Commit}
use Rattle.fetch_shared.specs.Passes.{Holder, IsBack}
use Rattle.fetch_shared.specs.Seen.{IsStateAt, IsRefusedAt}
use Rattle.fetch_shared.specs.Applying.{Matter, Course, course_of, reply_in, keep_in, HasTaken, HasJudged, Commits, commit_entry, IsApplied, IsUntaken, IsUncommitted, IsUnapplied, unremoved, kept_of, policy_by, HasVerdicts, IsStop, Moves, IsUnmoved}
use Rattle.fetch_shared.proofs.Saw.{state_later, refused_earlier, allowed_later}

-- ---- which answers an event has

pub take_refused : (h : Holding) (wants : List ObjectId) (pack : Pack) (e : SharedError) → take_refusal h wants pack ≡ Some e → ((id : ObjectId) × (e ≡ errors.Collision id)) ⊎ ((link : Missing) × (e ≡ errors.Disconnected link))
take_refused h wants pack e = by (collision h.objects pack.objects) (slice_get (missing h wants pack) 0)
  where
    by : (hit : Option ObjectId) (gap : Option Missing) → option_or (option_map errors.Collision hit) (option_map errors.Disconnected gap) ≡ Some e → ((id : ObjectId) × (e ≡ errors.Collision id)) ⊎ ((link : Missing) × (e ≡ errors.Disconnected link))
    by (Some id) gap is = inl (id, cc)
    by None (Some link) is = inr (link, cc)
    by None None is = absurd (cc)

pub commit_refused : (names : Names) (edits : List RefEdit) (e : SharedError) → commit_refusal names edits ≡ Some e → (name : List ℕ) × (found : Option Target) × (e ≡ errors.EditReferences name found)
commit_refused names edits e = by (find (fails names) edits)
  where
    by : (o : Option RefEdit) → option_map (λ (x : RefEdit). errors.EditReferences x.name (finmap.get names x.name)) o ≡ Some e → (name : List ℕ) × (found : Option Target) × (e ≡ errors.EditReferences name found)
    by (Some x) is = (x.name, finmap.get names x.name, cc)
    by None is = absurd (cc)

-- ---- as it is taken

-- what is taken was received
brought_from : (P : Received → Type 0) (dry_run : Bool) (r : Option Received) (reply : Received) → IfSome r P → to_take dry_run r ≡ Some reply → P reply
brought_from P true r reply h is = absurd (cc)
brought_from P false r reply h is = subst (λ (o : Option Received). IfSome o P) is h

pub unbrought : (m : Matter) (before after : Holder) (known : Option (List Worktree)) (files : Option Tree) (e : SharedError)
    → IfSome m.told.received (λ r. AreOf before.shared.opening.state.hash r.objects) → IfSome m.told.received (λ r. AreNamed r.objects)
    → IsPackUntaken before after m.options.dry_run m.wants m.told.received e → IsUnapplied m (course_of before after known files files) None None e
unbrought m before after known files e of_kind named h = by h.why
  where
    hit_or_gap : IsUntaken m (course_of before after known files files) None None e → ((id : ObjectId) × (e ≡ errors.Collision id)) ⊎ ((link : Missing) × (e ≡ errors.Disconnected link)) → IsUnapplied m (course_of before after known files files) None None e
    hit_or_gap u (inl (id, is)) = subst (λ (x : SharedError). IsUntaken m (course_of before after known files files) None None x → IsUnapplied m (course_of before after known files files) None None x) (sym is) (λ y. y) u
    hit_or_gap u (inr (link, is)) = subst (λ (x : SharedError). IsUntaken m (course_of before after known files files) None None x → IsUnapplied m (course_of before after known files files) None None x) (sym is) (λ y. y) u

    by : (e ≡ errors.NoMemory) ⊎ ((reply : Received) × (to_take m.options.dry_run m.told.received ≡ Some reply) × IsRefusedAt before.shared.opening before.front after.front (Take before.number m.wants (pack_of reply)) e)
        → IsUnapplied m (course_of before after known files files) None None e
    by (inl is) = subst (λ (x : SharedError). IsUnapplied m (course_of before after known files files) None None x) (sym is) (record { unplaced = refl; stands = inl (record { unjudged = refl; none = h.none; files_same = refl }) })
    by (inr (reply, is, refused)) =
        hit_or_gap
        (record {
          unjudged = refl;
          unplaced = refl;
          none = h.none;
          files_same = refl;
          reply = reply;
          came = record {
            is = is;
            of_kind = brought_from (λ r. AreOf before.shared.opening.state.hash r.objects) m.options.dry_run m.told.received reply of_kind is;
            named = brought_from (λ r. AreNamed r.objects) m.options.dry_run m.told.received reply named is;
          };
          refused = refused;
        })
        (take_refused (held refused.found.repository) m.wants (pack_of reply) e refused.cause)

-- ---- behind the taking

module _ (m : Matter) (p q w : Holder) (known : Option (List Worktree)) (files left : Option Tree) (b : PackTaken) (hb : HasTakenPack p q m.options.dry_run m.wants m.told.received b) where
  abbrev course : Course
  course = course_of p w known files left

  pub keep_same : made m.setup.settings.git_dir b.pack ≡ keep_in m
  keep_same = ap (made m.setup.settings.git_dir) hb.pack

  policy_same : (trees : List Worktree) → policy_by b m.options trees ≡ policy_in hb.saw.seen.repository.state m.options trees
  policy_same trees = ap (λ (t : Taken). policy_over t.refs.names t.graph m.options.message m.options.tags m.options.dry_run trees) hb.saw.taken

  module _ (later : Begins q.front w.front) (same : entries_of p.number w.front ≡ entries_of p.number q.front) where
    own_same : entries_of p.number w.front ≡ entries_of p.number hb.saw.seen.journal
    own_same = same ∙ ap (entries_of p.number) hb.saw.front

    own_added : entries_of p.number w.front ≡ course.own ++ take_entries p.number (reply_in m)
    own_added = same ∙ hb.saw.added

  taken_at : (count : ℕ) → count ≡ b.taken.place → Begins q.front w.front → HasTaken m course count
  taken_at count is later = record {
    seen = hb.saw.seen;
    at = state_later p.shared.opening p.front q.front w.front count hb.saw.seen later (subst (λ (k : ℕ). IsStateAt p.shared.opening p.front q.front k hb.saw.seen) (sym is) hb.saw.at);
    allowed = allowed_later p.shared.opening p.front q.front w.front p.number m.wants (reply_in m) hb.saw.seen later hb.allowed;
    added = ap (entries_of p.number) (sym hb.saw.front) ∙ hb.saw.added;
  }

  judged_at : (v : Verdicts) (mid : Option Tree) → HasVerdicts known files mid m.setup.settings.git_dir m.options m.told.listed.ref_map b v → Begins q.front w.front → HasJudged m course v.judged v.updates
  unfolding taken_at
  judged_at v mid h later = record {
    taken = taken_at v.judged h.count later;
    trees = h.trees;
    listed_trees = h.listed_trees;
    verdicts = subst (λ (x : Policy). judged_of x m.told.listed.ref_map ≡ Ok v.updates) (policy_same h.trees) h.by;
  }

  -- no verdicts
  module _ (later : Begins q.front w.front) (same : entries_of p.number w.front ≡ entries_of p.number q.front) where
    pub stopped : (s : Stop) → IsStop known files left m.setup.settings.git_dir m.options m.told.listed.ref_map b s → IsUnapplied m course s.judged None (fetching (receiving s.cause))
    unfolding taken_at
    stopped s (inl h) = by h.unmade.why
      where
        so : (x : ReceiveError) → s.cause ≡ x → IsUnapplied m course None None (fetching (receiving x)) → IsUnapplied m course s.judged None (fetching (receiving s.cause))
        so x is u = subst (λ (y : Option ℕ × ReceiveError). IsUnapplied m course y.0 None (fetching (receiving y.1))) (λ i. (sym h.unjudged i, sym is i)) u

        by : (s.cause ≡ receive.KeepFile h.unmade.path) ⊎ (s.cause ≡ receive.NoMemory) → IsUnapplied m course s.judged None (fetching (receiving s.cause))
        by (inl is) = so (receive.KeepFile h.unmade.path) is (record { unjudged = refl; unplaced = refl; added = own_added later same; keep = sym keep_same ∙ h.unmade.made; files_same = h.unmade.same_files })
        by (inr is) = so receive.NoMemory is (record { unplaced = refl; stands = inr (inl (record { unjudged = refl; added = own_added later same; path = h.unmade.path; keep = sym keep_same ∙ h.unmade.made; files_same = h.unmade.same_files })) })
    stopped s (inr h) = by (judging_told (policy_by b m.options h.trees) m.told.listed.ref_map s.cause h.by)
      where
        stands : AreFiles files left (with_keep (keep_in m))
        stands = subst (λ (x : Option (List ℕ)). AreFiles files left (with_keep x)) keep_same h.kept

        so : (x : ReceiveError) → s.cause ≡ x → IsUnapplied m course s.judged None (fetching (receiving x)) → IsUnapplied m course s.judged None (fetching (receiving s.cause))
        so x is u = subst (λ (y : ReceiveError). IsUnapplied m course s.judged None (fetching (receiving y))) (sym is) u

        why : (cause : UpdateError) → s.cause ≡ receive.UpdateRefs cause → is_worktree_fault cause ≡ false → judged_of (policy_in hb.saw.seen.repository.state m.options h.trees) m.told.listed.ref_map ≡ Err (receive.UpdateRefs cause)
        why cause is sure =
            let answered = subst (λ (y : ReceiveError). AnswersUnless {A = Updates} is_free_judging (judged_of (policy_by b m.options h.trees) m.told.listed.ref_map) (Err y)) is h.by in
            subst (λ (x : Policy). judged_of x m.told.listed.ref_map ≡ Err (receive.UpdateRefs cause)) (policy_same h.trees) (OnFalse_at sure answered)

        by : IsOfJudging s.cause → IsUnapplied m course s.judged None (fetching (receiving s.cause))
        by (inl is) = so receive.NoMemory is (record { unplaced = refl; stands = inr (inr (record { count = b.taken.place; judged_is = h.judged; taken = taken_at b.taken.place refl later; added = own_added later same; kept = stands })) })
        by (inr (cause, is)) = so (receive.UpdateRefs cause) is (record {
          count = b.taken.place;
          judged_is = h.judged;
          unplaced = refl;
          taken = taken_at b.taken.place refl later;
          none = own_same later same;
          by = record { trees = h.trees; listed_trees = h.listed_trees; why = why cause is };
          kept = stands;
        })

  -- ---- behind the verdicts

  module _ (v : Verdicts) (mid : Option Tree) (hv : HasVerdicts known files mid m.setup.settings.git_dir m.options m.told.listed.ref_map b v) (back : IsBack p q) (later : IsBack q w) where
    abbrev committer : Signature
    committer = m.setup.settings.committer

    -- the edits were refused
    pub unmoved : (e : SharedError) → left ≡ mid → IsUnmoved m.options.dry_run q w v.updates.edits committer e → IsUnapplied m course (Some v.judged) None e
    unfolding judged_at taken_at
    unmoved e still h = by h.why
      where
        same : entries_of p.number w.front ≡ entries_of p.number q.front
        same = subst (λ (n : ℕ). entries_of n w.front ≡ entries_of n q.front) back.number h.none

        stands : AreFiles files left (with_keep (keep_in m))
        stands = subst (λ (x : Option (List ℕ) × Option Tree). AreFiles files x.1 (with_keep x.0)) (λ i. (keep_same i, sym still i)) hv.kept

        uncommitted : IsUncommitted m course (Some v.judged) None e → (name : List ℕ) × (found : Option Target) × (e ≡ errors.EditReferences name found) → IsUnapplied m course (Some v.judged) None e
        uncommitted u (name, found, is) = subst (λ (x : SharedError). IsUncommitted m course (Some v.judged) None x → IsUnapplied m course (Some v.judged) None x) (sym is) (λ y. y) u

        by : (e ≡ errors.NoMemory) ⊎ ((m.options.dry_run ≡ false) × IsRefusedAt q.shared.opening q.front w.front (Commit q.number v.updates.edits committer) e) → IsUnapplied m course (Some v.judged) None e
        by (inl is) =
            subst (λ (x : SharedError). IsUnapplied m course (Some v.judged) None x) (sym is)
            (record { unplaced = refl; stands = inr (inr (record { count = v.judged; judged_is = refl; taken = (judged_at v mid hv later.begins).taken; added = own_added later.begins same; kept = stands })) })
        by (inr (wet, refused)) =
            uncommitted (record {
              count = v.judged;
              judged_is = refl;
              unplaced = refl;
              updates = v.updates;
              by = judged_at v mid hv later.begins;
              none = own_same later.begins same;
              refused = (
                wet,
                refused_earlier p.shared.opening p.front q.front w.front (Commit p.number v.updates.edits committer) e back.begins
                    (subst (λ (x : Holder). IsRefusedAt x.shared.opening q.front w.front (Commit x.number v.updates.edits committer) e) (λ i. record q { shared = back.shared i; number = back.number i }) refused),
              );
              kept = stands;
            }) (commit_refused refused.found.repository.state.refs.names v.updates.edits e refused.cause)

    commits : (place : Option ℕ) → Moves m.options.dry_run q w v.updates.edits committer place
        → Commits m.options.dry_run p.number v.judged (entries_of p.number hb.saw.seen.journal) w.front (commit_entry m p.number v.updates) place
    commits place h =
        let count : length q.front ≡ v.judged = ap length hb.saw.front ∙ hb.saw.at.count_is ∙ sym hv.count in
        subst (λ (x : ℕ × ℕ × List Entry). Commits m.options.dry_run x.0 x.1 (entries_of x.0 x.2) w.front (entries.Commit x.0 v.updates.edits committer) place) (λ i. (back.number i, count i, hb.saw.front i)) h

    told_is : v.taken ≡ told_of m.setup.settings.git_dir m.options.dry_run m.told.received
    told_is = hv.taken ∙ by m.told.received hb.negotiate_is hb.pack
      where
        by : (r : Option Received) → b.negotiate ≡ option_map (λ x. x.negotiate) r → b.pack ≡ pack_read m.options.dry_run r → kept_of m.setup.settings.git_dir b ≡ told_of m.setup.settings.git_dir m.options.dry_run r
        by None n k = ap (λ o. option_map (λ x. record { negotiate = x; pack = option_map (pack_kept m.setup.settings.git_dir) b.pack }) o) n
        by (Some r) n k =
            ap (λ o. option_map (λ x. record { negotiate = x; pack = option_map (pack_kept m.setup.settings.git_dir) b.pack }) o) n
            ∙ ap (λ (o : Option (ℕ × ObjectId)). Some (record { negotiate = r.negotiate; pack = option_map (pack_kept m.setup.settings.git_dir) o })) k

    -- the keep file couldn't be removed
    pub unreleased : (place : Option ℕ) (e : SharedError) → Moves m.options.dry_run q w v.updates.edits committer place → (path : List ℕ) × (e ≡ unremoved path) × (released_of v.updates v.taken ≡ Some path)
        → left ≡ mid → IsUnapplied m course (Some v.judged) place e
    unfolding judged_at taken_at
    unreleased place e moved (path, is, gone) still =
        subst (λ (x : SharedError). IsUnapplied m course (Some v.judged) place x) (sym is) (record {
          count = v.judged;
          judged_is = refl;
          updates = v.updates;
          by = judged_at v mid hv later.begins;
          commits = commits place moved;
          removed = removed_is m.setup.settings.git_dir m.options.dry_run m.told.received v.updates ∙ ap (released_of v.updates) (sym told_is) ∙ gone;
          kept = subst (λ (x : Option (List ℕ) × Option Tree). AreFiles files x.1 (with_keep x.0)) (λ i. (keep_same i, sym still i)) hv.kept;
        })

    -- all was done
    pub settles : (place : Option ℕ) (ref_map : RefMap) (handshake : Handshake) (outcome : Outcome) → Moves m.options.dry_run q w v.updates.edits committer place → ◌≡◌ {A = RefMap × Handshake} (ref_map, handshake) (m.told.listed.ref_map, m.told.listed.handshake)
        → outcome ≡ record { ref_map = ref_map; handshake = handshake; status = status_by m.options.dry_run v.taken v.updates } → AreFiles mid left (without_keep (released_of v.updates v.taken)) → IsApplied m course v.judged place outcome
    unfolding judged_at taken_at
    settles place ref_map handshake outcome moved found is released =
        let git_dir = m.setup.settings.git_dir in
        let status : status_by m.options.dry_run v.taken v.updates ≡ status_of git_dir m.options.dry_run m.told.received v.updates =
        ap (λ (t : Option Told). status_by m.options.dry_run t v.updates) told_is ∙ status_is git_dir m.options.dry_run m.told.received v.updates in
        let whole : outcome ≡ outcome_in git_dir m.options m.told.listed m.told.received v.updates =
        is ∙ (λ i. record { ref_map = (found i).0; handshake = (found i).1; status = status i }) in
        record {
          updates = v.updates;
          by = judged_at v mid hv later.begins;
          commits = commits place moved;
          outcome_is = whole;
          kept = left_files files mid left git_dir m.options.dry_run m.told.received v.updates outcome.status (ap (λ (o : Outcome). o.status) whole)
              (subst (λ (x : Option (List ℕ)). AreFiles files mid (with_keep x)) keep_same hv.kept)
              (subst (λ (t : Option Told). AreFiles mid left (without_keep (released_of v.updates t))) told_is released);
        }

    -- files that tell a tree let the keep file go that was made
    pub removable_by : (may_fail : Bool) (path : List ℕ) → IsBlocked may_fail mid (without_keep (released_of v.updates v.taken)) → released_of v.updates v.taken ≡ Some path → may_fail ≡ false → files ≡ None
    removable_by may_fail path blocked gone never =
        removable files mid may_fail m.setup.settings.git_dir m.options.dry_run m.told.received v.updates v.taken (receive.RemovePackKeepFile path) told_is
        (subst (λ (x : Option (List ℕ)). AreFiles files mid (with_keep x)) keep_same hv.kept) blocked (path, refl, gone) never

    -- where no pack was read, no keep file was made
    pub kept_nothing : pack_read m.options.dry_run m.told.received ≡ None → kept_in v.taken ≡ None
    kept_nothing none = ap (λ (t : Option Told). kept_in t) told_is ∙ kept_none m.setup.settings.git_dir m.options.dry_run m.told.received none

    -- and where none is told, no pack was read
    pub read_nothing : (status : Status) → status ≡ status_by m.options.dry_run v.taken v.updates → made_in m.setup.settings.git_dir status ≡ None → pack_read m.options.dry_run m.told.received ≡ None
    read_nothing status is none =
        let git_dir = m.setup.settings.git_dir in
        let told : status ≡ status_of git_dir m.options.dry_run m.told.received v.updates =
        is ∙ (ap (λ (t : Option Told). status_by m.options.dry_run t v.updates) told_is ∙ status_is git_dir m.options.dry_run m.told.received v.updates) in
        made_none git_dir m.options.dry_run m.told.received (sym (made_is git_dir m.options.dry_run m.told.received v.updates) ∙ (sym (ap (λ (s : Status). made_in git_dir s) told) ∙ none))
