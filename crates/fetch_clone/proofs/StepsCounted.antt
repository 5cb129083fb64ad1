-- Of each step, the refusals that have a count come only where it rose.
use Rattle.std.proofs.Common.{◌≡◌, ℕ, Bool, true, List, inl, inr, Option, Some, None, Result, Ok, Err, refl, sym, ap, subst, ◌∙◌}
use Rattle.std.specs.Prelude.{IfErr, is_some}
use Rattle.fetch_config.specs.Contents.{Contents}
use Rattle.fetch_base.specs.Faults.{Faults, Counts, Rose, Rose-earlier}
use Rattle.fetch_files.specs.Trees.{Tree}
use Rattle.fetch_map.specs.declared.mapping.RefMap.{RefMap}
use Rattle.fetch_update.specs.declared.update.Error.TheVariants as update
use Rattle.fetch_update.specs.declared.worktrees.WorktreeFault.TheVariants.{Listing, OpenRepo, FollowSymref}
use Rattle.fetch_conversation.specs.Errors.{is_client, is_stopped}
use Rattle.fetch_conversation.specs.declared.fetch.Error.{Error as ReceiveError}
use Rattle.fetch_conversation.specs.declared.fetch.Error.TheVariants as fetch
use Rattle.fetch_conversation.specs.declared.prepare.Error.{Error as PrepareError}
use Rattle.fetch_conversation.specs.declared.prepare.Error.TheVariants as prepare
use Rattle.fetch_conversation.specs.declared.ref_map.Error.{Error as MapError}
use Rattle.fetch_conversation.specs.declared.ref_map.Error.TheVariants as ref_map
use Rattle.fetch_remote.specs.Blame.{fault_in, keep_fault_in}
use Rattle.fetch_remote.specs.Remotes.{RemoteValue}
use Rattle.fetch_remote.specs.RepositoryValues.{RepositoryValue, Setup}
use Rattle.fetch_remote.specs.declared.connect.Error.TheVariants as connect
use Rattle.fetch_remote.specs.declared.repository.open_error.OpenError.{OpenError}
use Rattle.fetch_remote.specs.declared.repository.open_error.OpenError.TheVariants as opening
use Rattle.fetch_clone.specs.Cloned.{IsUnfinished}
use Rattle.fetch_clone.specs.Counted.{Meters, IsCounted}
use Rattle.fetch_init.specs.HeadUpdates.{IsHeadRefusal}
use Rattle.fetch_clone.specs.Listed.{Query, IsUnprepared, url_of}
use Rattle.fetch_init.specs.RemoteSections.{IsSectionRefusal, IsUnsavedAs, IsUnwritten}
use Rattle.fetch_clone.specs.Planned.{Answering, IsNotNamed, overrides_of}
use Rattle.fetch_clone.specs.Reached.{Ways, Line, IsTurnedAway, IsUnreached}
use Rattle.fetch_clone.specs.Received.{IsOfReceiving, IsUnmapped, IsUnmappedFor}
use Rattle.fetch_clone.specs.Saving.{IsNotSavedAs}
use Rattle.fetch_clone.specs.Stages.{ref_name_of, remote_name, revision_of}
use Rattle.fetch_init.specs.Refusals.{receiving, reopening, preparing, listing}
use Rattle.fetch_init.specs.declared.head_target.HeadError.TheVariants as head_errors
use Rattle.fetch_clone.specs.declared.choices.CloneTarget.{CloneTarget}
use Rattle.fetch_clone.specs.declared.choices.CloneTarget.TheVariants.{Everything, RefName, Revision}
use Rattle.fetch_init.specs.declared.clone.fetch.Error.{Error}
use Rattle.fetch_init.specs.declared.clone.fetch.Error.TheVariants as errors
use Rattle.fetch_clone.specs.declared.clone_state.CloneState.{CloneState}
use Rattle.fetch_clone.specs.declared.prepare_fetch.ConfigureFault.{ConfigureFault}
use Rattle.fetch_clone.proofs.Uncounted.{is_uncounted, uncounted, override-uncounted, name-uncounted, choice-uncounted, same-uncounted, told-as-uncounted, target-uncounted}

-- ---- peers

-- no peer was reached
pub unreached-counted : (refused : ConfigureFault → Type 0) (unmade : Type 0) (was is : Meters) (url : Option (List ℕ)) (e : Error) → IsUnreached refused unmade was.made is.made url e → IsCounted was is e
unreached-counted refused unmade was is url errors.Consumed h = tt
unreached-counted refused unmade was is url (errors.ParseConfig x) h = tt
unreached-counted refused unmade was is url (errors.RemoteName x) h = tt
unreached-counted refused unmade was is url (errors.Connect (connect.MissingUrl x)) h = tt
unreached-counted refused unmade was is url (errors.Connect connect.Connect) h = h.0
unreached-counted refused unmade was is url (errors.Connect connect.NoMemory) h = tt
unreached-counted refused unmade was is url (errors.RemoteConnection x) h = tt
unreached-counted refused unmade was is url (errors.RefMap x) h = absurd h
unreached-counted refused unmade was is url (errors.RefNameMissing x) h = tt
unreached-counted refused unmade was is url (errors.RefNameAmbiguous x y) h = tt
unreached-counted refused unmade was is url (errors.InvalidHeadRef x) h = tt
unreached-counted refused unmade was is url (errors.ReferenceName x) h = tt
unreached-counted refused unmade was is url (errors.RemoteConfiguration x) h = tt
unreached-counted refused unmade was is url (errors.SaveConfig x) h = tt
unreached-counted refused unmade was is url (errors.LoadConfig x) h = absurd h
unreached-counted refused unmade was is url errors.SaveConfigIo h = absurd h
unreached-counted refused unmade was is url (errors.PrepareFetch x) h = absurd h
unreached-counted refused unmade was is url (errors.RevisionMissing x) h = tt
unreached-counted refused unmade was is url (errors.ReopenWithObjectHash x) h = absurd h
unreached-counted refused unmade was is url (errors.Fetch x) h = absurd h
unreached-counted refused unmade was is url (errors.FindRevision x) h = tt
unreached-counted refused unmade was is url (errors.PeelRevision x) h = tt
unreached-counted refused unmade was is url errors.NoMemory h = tt

pub listing-counted : (was is : Meters) (cause : MapError) → (listing cause ≡ errors.RefMap ref_map.Transport → Rose was.lost is.lost) → (listing cause ≡ errors.RefMap ref_map.Interrupted → Rose was.yes is.yes) → IsCounted was is (listing cause)
listing-counted was is (ref_map.Handshake x) lost said = tt
listing-counted was is ref_map.Transport lost said = lost refl
listing-counted was is ref_map.Interrupted lost said = said refl
listing-counted was is (ref_map.InitRefMap x) lost said = tt
listing-counted was is ref_map.NoMemory lost said = tt

pub preparing-counted : (was is : Meters) (cause : PrepareError) → (preparing cause ≡ errors.PrepareFetch (prepare.RefMap ref_map.Transport) → Rose was.lost is.lost)
    → (preparing cause ≡ errors.PrepareFetch (prepare.RefMap ref_map.Interrupted) → Rose was.yes is.yes) → IsCounted was is (preparing cause)
preparing-counted was is prepare.MissingRefSpecs lost said = tt
preparing-counted was is (prepare.RefMap (ref_map.Handshake x)) lost said = tt
preparing-counted was is (prepare.RefMap ref_map.Transport) lost said = lost refl
preparing-counted was is (prepare.RefMap ref_map.Interrupted) lost said = said refl
preparing-counted was is (prepare.RefMap (ref_map.InitRefMap x)) lost said = tt
preparing-counted was is (prepare.RefMap ref_map.NoMemory) lost said = tt
preparing-counted was is prepare.NoMemory lost said = tt

-- ---- the name and the target

pub named-counted : {G P : Type 0} (w : Ways G P) (was is : Meters) (before after : Line G P) (draft : CloneState) (found repo : RepositoryValue) (e : Error) → IsNotNamed w was.made is.made before after draft found repo e
    → (e ≡ errors.RefMap ref_map.Transport → Rose was.lost is.lost) → (e ≡ errors.RefMap ref_map.Interrupted → Rose was.yes is.yes) → IsCounted was is e
named-counted w was is before after draft found repo e h lost said =
    elim h.by [
      | inl a ↦ uncounted was is e (override-uncounted (overrides_of draft) e a.why)
      | inr y ↦ elim y [
        | inl b ↦ uncounted was is e (name-uncounted (remote_name draft.choices repo.setup.settings.config) e b.why)
        | inr t ↦ elim t.why.why [
          | inl u ↦ unreached-counted (IsTurnedAway w (Some draft.url) before after) (after ≡ before) was is (Some draft.url) e u
          | inr x ↦ elim x [
            | inl l ↦ subst (IsCounted was is) (sym l.1) (listing-counted was is l.0 (λ h. lost (l.1 ∙ h)) (λ h. said (l.1 ∙ h)))
            | inr a ↦ uncounted was is e (target-uncounted repo.state a.listed.ref_map (ref_name_of draft.choices.wanted) _ a.why.0 e a.why.1 a.why.2)
          ]
        ]
      ]
    ]

-- ---- saving

unwritten-counted : (was is : Meters) (may_fail : Bool) (told : Option Tree) (setup : Setup) (section : Contents) (now : Option Tree) (e : Error) → IsUnwritten may_fail told setup section now e
    → (e ≡ errors.LoadConfig opening.Io → Rose was.files is.files) → (e ≡ errors.SaveConfigIo → Rose was.files is.files) → IsCounted was is e
unwritten-counted was is may_fail told setup section now errors.Consumed h load io = tt
unwritten-counted was is may_fail told setup section now (errors.ParseConfig x) h load io = tt
unwritten-counted was is may_fail told setup section now (errors.RemoteName x) h load io = tt
unwritten-counted was is may_fail told setup section now (errors.Connect x) h load io = absurd h
unwritten-counted was is may_fail told setup section now (errors.RemoteConnection x) h load io = tt
unwritten-counted was is may_fail told setup section now (errors.RefMap x) h load io = absurd h
unwritten-counted was is may_fail told setup section now (errors.RefNameMissing x) h load io = tt
unwritten-counted was is may_fail told setup section now (errors.RefNameAmbiguous x y) h load io = tt
unwritten-counted was is may_fail told setup section now (errors.InvalidHeadRef x) h load io = tt
unwritten-counted was is may_fail told setup section now (errors.ReferenceName x) h load io = tt
unwritten-counted was is may_fail told setup section now (errors.RemoteConfiguration x) h load io = tt
unwritten-counted was is may_fail told setup section now (errors.SaveConfig x) h load io = tt
unwritten-counted was is may_fail told setup section now (errors.LoadConfig opening.Io) h load io = load refl
unwritten-counted was is may_fail told setup section now (errors.LoadConfig (opening.Missing x)) h load io = tt
unwritten-counted was is may_fail told setup section now (errors.LoadConfig (opening.Config x)) h load io = tt
unwritten-counted was is may_fail told setup section now (errors.LoadConfig (opening.Override x)) h load io = tt
unwritten-counted was is may_fail told setup section now (errors.LoadConfig opening.NoMemory) h load io = tt
unwritten-counted was is may_fail told setup section now errors.SaveConfigIo h load io = io refl
unwritten-counted was is may_fail told setup section now (errors.PrepareFetch x) h load io = absurd h
unwritten-counted was is may_fail told setup section now (errors.RevisionMissing x) h load io = tt
unwritten-counted was is may_fail told setup section now (errors.ReopenWithObjectHash x) h load io = absurd h
unwritten-counted was is may_fail told setup section now (errors.Fetch x) h load io = absurd h
unwritten-counted was is may_fail told setup section now (errors.FindRevision x) h load io = tt
unwritten-counted was is may_fail told setup section now (errors.PeelRevision x) h load io = tt
unwritten-counted was is may_fail told setup section now errors.NoMemory h load io = tt

-- whether it isn't saved by itself
unsaved-uncounted : (remote : RemoteValue) (name : List ℕ) (e : Error) → IsUnsavedAs remote name e → is_uncounted e ≡ true
unsaved-uncounted remote name errors.Consumed h = refl
unsaved-uncounted remote name (errors.ParseConfig x) h = refl
unsaved-uncounted remote name (errors.RemoteName x) h = refl
unsaved-uncounted remote name (errors.Connect x) h = absurd h
unsaved-uncounted remote name (errors.RemoteConnection x) h = refl
unsaved-uncounted remote name (errors.RefMap x) h = absurd h
unsaved-uncounted remote name (errors.RefNameMissing x) h = refl
unsaved-uncounted remote name (errors.RefNameAmbiguous x y) h = refl
unsaved-uncounted remote name (errors.InvalidHeadRef x) h = refl
unsaved-uncounted remote name (errors.ReferenceName x) h = refl
unsaved-uncounted remote name (errors.RemoteConfiguration x) h = refl
unsaved-uncounted remote name (errors.SaveConfig x) h = refl
unsaved-uncounted remote name (errors.LoadConfig x) h = absurd h
unsaved-uncounted remote name errors.SaveConfigIo h = absurd h
unsaved-uncounted remote name (errors.PrepareFetch x) h = absurd h
unsaved-uncounted remote name (errors.RevisionMissing x) h = refl
unsaved-uncounted remote name (errors.ReopenWithObjectHash x) h = absurd h
unsaved-uncounted remote name (errors.Fetch x) h = absurd h
unsaved-uncounted remote name (errors.FindRevision x) h = refl
unsaved-uncounted remote name (errors.PeelRevision x) h = refl
unsaved-uncounted remote name errors.NoMemory h = refl

section-counted : (was is : Meters) (may_fail : Bool) (told : Option Tree) (setup : Setup) (remote : RemoteValue) (name : List ℕ) (now : Option Tree) (e : Error) → IsSectionRefusal may_fail told setup remote name now e
    → (e ≡ errors.LoadConfig opening.Io → Rose was.files is.files) → (e ≡ errors.SaveConfigIo → Rose was.files is.files) → IsCounted was is e
section-counted was is may_fail told setup remote name now e (inl u) load io = uncounted was is e (unsaved-uncounted remote name e u.1)
section-counted was is may_fail told setup remote name now e (inr w) load io = unwritten-counted was is may_fail told setup _ now e w.1 load io

pub saved-counted : (answers : Answering) (was is : Meters) (may_fail : Bool) (files files_left : Option Tree) (draft : CloneState) (setup : Setup) (name : List ℕ) (target : Option (List ℕ)) (e : Error) → IsNotSavedAs answers may_fail files files_left draft setup name target e
    → (e ≡ errors.LoadConfig opening.Io → Rose was.files is.files) → (e ≡ errors.SaveConfigIo → Rose was.files is.files) → IsCounted was is e
saved-counted answers was is may_fail files files_left draft setup name target e h load io =
    elim h.by [
      | inl a ↦ uncounted was is e (choice-uncounted answers draft name target e a.0)
      | inr b ↦ section-counted was is may_fail files setup b.chosen name files_left e b.why load io
    ]

-- the same of a result
pub counted-saved : (X : Type 0) (answers : Answering) (was is : Meters) (may_fail : Bool) (files files_left : Option Tree) (draft : CloneState) (setup : Setup) (name : List ℕ) (target : Option (List ℕ)) (r : Result X Error) → IfErr r (IsNotSavedAs answers may_fail files files_left draft setup name target)
    → (r ≡ Err (errors.LoadConfig opening.Io) → Rose was.files is.files) → (r ≡ Err errors.SaveConfigIo → Rose was.files is.files) → IfErr r (IsCounted was is)
counted-saved X answers was is may_fail files files_left draft setup name target (Ok x) h load io = tt
counted-saved X answers was is may_fail files files_left draft setup name target (Err e) h load io =
    saved-counted answers was is may_fail files files_left draft setup name target e h (λ x. load (ap (λ y. Err y) x)) (λ x. io (ap (λ y. Err y) x))

-- ---- listing

again-counted : (was is : Meters) (refused : ConfigureFault → Type 0) (unmade : Type 0) (mid : Faults) (url : Option (List ℕ)) (e : Error) → Counts was.made mid → IsUnreached refused unmade mid is.made url e → IsCounted was is e
again-counted was is refused unmade mid url errors.Consumed counts h = tt
again-counted was is refused unmade mid url (errors.ParseConfig x) counts h = tt
again-counted was is refused unmade mid url (errors.RemoteName x) counts h = tt
again-counted was is refused unmade mid url (errors.Connect (connect.MissingUrl x)) counts h = tt
again-counted was is refused unmade mid url (errors.Connect connect.Connect) counts h = Rose-earlier was.made mid is.made counts h.0
again-counted was is refused unmade mid url (errors.Connect connect.NoMemory) counts h = tt
again-counted was is refused unmade mid url (errors.RemoteConnection x) counts h = tt
again-counted was is refused unmade mid url (errors.RefMap x) counts h = absurd h
again-counted was is refused unmade mid url (errors.RefNameMissing x) counts h = tt
again-counted was is refused unmade mid url (errors.RefNameAmbiguous x y) counts h = tt
again-counted was is refused unmade mid url (errors.InvalidHeadRef x) counts h = tt
again-counted was is refused unmade mid url (errors.ReferenceName x) counts h = tt
again-counted was is refused unmade mid url (errors.RemoteConfiguration x) counts h = tt
again-counted was is refused unmade mid url (errors.SaveConfig x) counts h = tt
again-counted was is refused unmade mid url (errors.LoadConfig x) counts h = absurd h
again-counted was is refused unmade mid url errors.SaveConfigIo counts h = absurd h
again-counted was is refused unmade mid url (errors.PrepareFetch x) counts h = absurd h
again-counted was is refused unmade mid url (errors.RevisionMissing x) counts h = tt
again-counted was is refused unmade mid url (errors.ReopenWithObjectHash x) counts h = absurd h
again-counted was is refused unmade mid url (errors.Fetch x) counts h = absurd h
again-counted was is refused unmade mid url (errors.FindRevision x) counts h = tt
again-counted was is refused unmade mid url (errors.PeelRevision x) counts h = tt
again-counted was is refused unmade mid url errors.NoMemory counts h = tt

prepared-counted : (was is : Meters) (cause : PrepareError) (e : Error) → e ≡ preparing cause → (e ≡ errors.PrepareFetch (prepare.RefMap ref_map.Transport) → Rose was.lost is.lost) → (e ≡ errors.PrepareFetch (prepare.RefMap ref_map.Interrupted) → Rose was.yes is.yes)
    → IsCounted was is e
prepared-counted was is cause e is_told lost said = subst (IsCounted was is) (sym is_told) (preparing-counted was is cause (λ h. lost (is_told ∙ h)) (λ h. said (is_told ∙ h)))

pub listed-counted : {G P : Type 0} (w : Ways G P) (was is : Meters) (before after : Line G P) (q : Query) (e : Error) → IsUnprepared w was.made is.made before after q e
    → (e ≡ errors.PrepareFetch (prepare.RefMap ref_map.Transport) → Rose was.lost is.lost) → (e ≡ errors.PrepareFetch (prepare.RefMap ref_map.Interrupted) → Rose was.yes is.yes) → IsCounted was is e
listed-counted w was is before after q e h lost said =
    elim h.by [
      | inl first ↦ elim first [
        | inl u ↦ unreached-counted (IsTurnedAway w (url_of q) before after) (after ≡ before) was is (url_of q) e u
        | inr b ↦ prepared-counted was is b.0 e b.1 lost said
      ]
      | inr again ↦ elim again.why.by [
        | inl u ↦ again-counted was is (λ fault. ⊥) ((after.left ≡ again.between.left) × (after.taken ≡ again.between.taken) × (after.addresses ≡ again.between.addresses)) again.failed (url_of q) e again.earlier u
        | inr b ↦ prepared-counted was is b.0 e b.1 lost said
      ]
    ]

-- ---- receiving

unmapped-uncounted : (was is : Meters) (wanted : CloneTarget) (map : RefMap) (e : Error) → IsUnmappedFor wanted map e → IsCounted was is e
unmapped-uncounted was is Everything map e h = absurd h
unmapped-uncounted was is (RefName name) map e h = uncounted was is e (told-as-uncounted (Some name) None (head_errors.Name h.0) e h.2)
unmapped-uncounted was is (Revision spec) map e h = uncounted was is e (told-as-uncounted None (Some spec) head_errors.Revision e h.1)

-- What isn't mapped is refused without a count.
pub unmapped-counted : (was is : Meters) (wanted : CloneTarget) (map : RefMap) (e : Error) → IsUnmapped wanted map e → IsCounted was is e
unmapped-counted was is wanted map e (inl m) = subst (IsCounted was is) (sym m) tt
unmapped-counted was is wanted map e (inr u) = unmapped-uncounted was is wanted map e u

-- a refusal of a fetch that goes on with what was listed, where each that it blames is counted
pub receiving-counted : (was is : Meters) (cause : ReceiveError) → (is_client cause ≡ true → Rose was.lost is.lost) → (is_stopped cause ≡ true → Rose was.yes is.yes) → (is_some (keep_fault_in cause) ≡ true → Rose was.files is.files)
    → (fault_in cause ≡ Some Listing → Rose was.trees.listing is.trees.listing) → (fault_in cause ≡ Some OpenRepo → Rose was.trees.open_repo is.trees.open_repo) → (fault_in cause ≡ Some FollowSymref → Rose was.trees.follow_symref is.trees.follow_symref)
    → IsCounted was is (receiving cause)
receiving-counted was is (fetch.NoMapping x y) client stopped keep listed opened followed = tt
receiving-counted was is (fetch.IncompatibleObjectHash x y) client stopped keep listed opened followed = tt
receiving-counted was is (fetch.Disconnected x) client stopped keep listed opened followed = tt
receiving-counted was is (fetch.RejectShallowRemoteConfig x) client stopped keep listed opened followed = tt
receiving-counted was is (fetch.NegotiationAlgorithmConfig x) client stopped keep listed opened followed = tt
receiving-counted was is (fetch.PackThreads x) client stopped keep listed opened followed = tt
receiving-counted was is (fetch.Fetch x) client stopped keep listed opened followed = tt
receiving-counted was is fetch.Client client stopped keep listed opened followed = client refl
receiving-counted was is fetch.Interrupted client stopped keep listed opened followed = stopped refl
receiving-counted was is (fetch.RejectShallowRemote x) client stopped keep listed opened followed = tt
receiving-counted was is (fetch.Pack x) client stopped keep listed opened followed = tt
receiving-counted was is (fetch.Collision x) client stopped keep listed opened followed = tt
receiving-counted was is (fetch.KeepFile x) client stopped keep listed opened followed = keep refl
receiving-counted was is (fetch.UpdateRefs (update.FindReference x)) client stopped keep listed opened followed = tt
receiving-counted was is (fetch.UpdateRefs (update.InvalidRefName x)) client stopped keep listed opened followed = tt
receiving-counted was is (fetch.UpdateRefs (update.FindCommit x)) client stopped keep listed opened followed = tt
receiving-counted was is (fetch.UpdateRefs (update.PeelToId x y)) client stopped keep listed opened followed = tt
receiving-counted was is (fetch.UpdateRefs update.WorktreeListing) client stopped keep listed opened followed = listed refl
receiving-counted was is (fetch.UpdateRefs update.OpenWorktreeRepo) client stopped keep listed opened followed = opened refl
receiving-counted was is (fetch.UpdateRefs update.FollowSymref) client stopped keep listed opened followed = followed refl
receiving-counted was is (fetch.UpdateRefs update.NoMemory) client stopped keep listed opened followed = tt
receiving-counted was is (fetch.RemovePackKeepFile x) client stopped keep listed opened followed = keep refl
receiving-counted was is fetch.NoMemory client stopped keep listed opened followed = tt

-- a refusal of the file that is read again
pub reopening-counted : (was is : Meters) (cause : OpenError) → (reopening cause ≡ errors.ReopenWithObjectHash opening.Io → Rose was.files is.files) → IsCounted was is (reopening cause)
reopening-counted was is opening.Io reopened = reopened refl
reopening-counted was is (opening.Missing x) reopened = tt
reopening-counted was is (opening.Config x) reopened = tt
reopening-counted was is (opening.Override x) reopened = tt
reopening-counted was is opening.NoMemory reopened = tt

receiving-recounted : (was is here left : Meters) (cause : ReceiveError) → (Rose here.lost left.lost → Rose was.lost is.lost) → (Rose here.yes left.yes → Rose was.yes is.yes) → (Rose here.files left.files → Rose was.files is.files)
    → (Rose here.trees.listing left.trees.listing → Rose was.trees.listing is.trees.listing) → (Rose here.trees.open_repo left.trees.open_repo → Rose was.trees.open_repo is.trees.open_repo) → (Rose here.trees.follow_symref left.trees.follow_symref → Rose was.trees.follow_symref is.trees.follow_symref)
    → IsCounted here left (receiving cause) → IsCounted was is (receiving cause)
receiving-recounted was is here left (fetch.NoMapping x y) lost said files listed opened followed h = tt
receiving-recounted was is here left (fetch.IncompatibleObjectHash x y) lost said files listed opened followed h = tt
receiving-recounted was is here left (fetch.Disconnected x) lost said files listed opened followed h = tt
receiving-recounted was is here left (fetch.RejectShallowRemoteConfig x) lost said files listed opened followed h = tt
receiving-recounted was is here left (fetch.NegotiationAlgorithmConfig x) lost said files listed opened followed h = tt
receiving-recounted was is here left (fetch.PackThreads x) lost said files listed opened followed h = tt
receiving-recounted was is here left (fetch.Fetch x) lost said files listed opened followed h = tt
receiving-recounted was is here left fetch.Client lost said files listed opened followed h = lost h
receiving-recounted was is here left fetch.Interrupted lost said files listed opened followed h = said h
receiving-recounted was is here left (fetch.RejectShallowRemote x) lost said files listed opened followed h = tt
receiving-recounted was is here left (fetch.Pack x) lost said files listed opened followed h = tt
receiving-recounted was is here left (fetch.Collision x) lost said files listed opened followed h = tt
receiving-recounted was is here left (fetch.KeepFile x) lost said files listed opened followed h = files h
receiving-recounted was is here left (fetch.UpdateRefs (update.FindReference x)) lost said files listed opened followed h = tt
receiving-recounted was is here left (fetch.UpdateRefs (update.InvalidRefName x)) lost said files listed opened followed h = tt
receiving-recounted was is here left (fetch.UpdateRefs (update.FindCommit x)) lost said files listed opened followed h = tt
receiving-recounted was is here left (fetch.UpdateRefs (update.PeelToId x y)) lost said files listed opened followed h = tt
receiving-recounted was is here left (fetch.UpdateRefs update.WorktreeListing) lost said files listed opened followed h = listed h
receiving-recounted was is here left (fetch.UpdateRefs update.OpenWorktreeRepo) lost said files listed opened followed h = opened h
receiving-recounted was is here left (fetch.UpdateRefs update.FollowSymref) lost said files listed opened followed h = followed h
receiving-recounted was is here left (fetch.UpdateRefs update.NoMemory) lost said files listed opened followed h = tt
receiving-recounted was is here left (fetch.RemovePackKeepFile x) lost said files listed opened followed h = files h
receiving-recounted was is here left fetch.NoMemory lost said files listed opened followed h = tt

-- the same, counted by others
pub received-recounted : (was is here left : Meters) (wanted : CloneTarget) (map : RefMap) (e : Error) → IsOfReceiving wanted map e → (Rose here.lost left.lost → Rose was.lost is.lost) → (Rose here.yes left.yes → Rose was.yes is.yes) → (Rose here.files left.files → Rose was.files is.files)
    → (Rose here.trees.listing left.trees.listing → Rose was.trees.listing is.trees.listing) → (Rose here.trees.open_repo left.trees.open_repo → Rose was.trees.open_repo is.trees.open_repo) → (Rose here.trees.follow_symref left.trees.follow_symref → Rose was.trees.follow_symref is.trees.follow_symref)
    → IsCounted here left e → IsCounted was is e
received-recounted was is here left wanted map e (inl u) lost said files listed opened followed h = unmapped-counted was is wanted map e u
received-recounted was is here left wanted map e (inr (inl b)) lost said files listed opened followed h =
    let t = b.1 in
    subst (IsCounted was is) (sym t) (reopening-counted was is b.0 (λ io. files (subst (IsCounted here left) (t ∙ io) h)))
received-recounted was is here left wanted map e (inr (inr b)) lost said files listed opened followed h =
    let t = b.1 in
    subst (IsCounted was is) (sym t) (receiving-recounted was is here left b.0 lost said files listed opened followed (subst (IsCounted here left) t h))

-- ---- finishing

head-counted : (was is : Meters) (may_fail : Bool) (files files_left : Option Tree) (before after : RepositoryValue) (map : RefMap) (message remote : List ℕ) (wanted : CloneTarget) (e : Error)
    → IsHeadRefusal may_fail files files_left before after map message remote (ref_name_of wanted) (revision_of wanted) e → (e ≡ errors.SaveConfigIo → Rose was.files is.files) → IsCounted was is e
head-counted was is may_fail files files_left before after map message remote wanted errors.Consumed h io = tt
head-counted was is may_fail files files_left before after map message remote wanted (errors.ParseConfig x) h io = tt
head-counted was is may_fail files files_left before after map message remote wanted (errors.RemoteName x) h io = tt
head-counted was is may_fail files files_left before after map message remote wanted (errors.Connect x) h io = uncounted was is (errors.Connect x) (same-uncounted (ref_name_of wanted) (revision_of wanted) h.why.cause (errors.Connect x) h.why.as_told)
head-counted was is may_fail files files_left before after map message remote wanted (errors.RemoteConnection x) h io = tt
head-counted was is may_fail files files_left before after map message remote wanted (errors.RefMap x) h io = uncounted was is (errors.RefMap x) (same-uncounted (ref_name_of wanted) (revision_of wanted) h.why.cause (errors.RefMap x) h.why.as_told)
head-counted was is may_fail files files_left before after map message remote wanted (errors.RefNameMissing x) h io = tt
head-counted was is may_fail files files_left before after map message remote wanted (errors.RefNameAmbiguous x y) h io = tt
head-counted was is may_fail files files_left before after map message remote wanted (errors.InvalidHeadRef x) h io = tt
head-counted was is may_fail files files_left before after map message remote wanted (errors.ReferenceName x) h io = tt
head-counted was is may_fail files files_left before after map message remote wanted (errors.RemoteConfiguration x) h io = tt
head-counted was is may_fail files files_left before after map message remote wanted (errors.SaveConfig x) h io = tt
head-counted was is may_fail files files_left before after map message remote wanted (errors.LoadConfig x) h io = uncounted was is (errors.LoadConfig x) (same-uncounted (ref_name_of wanted) (revision_of wanted) h.why.cause (errors.LoadConfig x) h.why.as_told)
head-counted was is may_fail files files_left before after map message remote wanted errors.SaveConfigIo h io = io refl
head-counted was is may_fail files files_left before after map message remote wanted (errors.PrepareFetch x) h io = uncounted was is (errors.PrepareFetch x) (same-uncounted (ref_name_of wanted) (revision_of wanted) h.why.cause (errors.PrepareFetch x) h.why.as_told)
head-counted was is may_fail files files_left before after map message remote wanted (errors.RevisionMissing x) h io = tt
head-counted was is may_fail files files_left before after map message remote wanted (errors.ReopenWithObjectHash x) h io = uncounted was is (errors.ReopenWithObjectHash x) (same-uncounted (ref_name_of wanted) (revision_of wanted) h.why.cause (errors.ReopenWithObjectHash x) h.why.as_told)
head-counted was is may_fail files files_left before after map message remote wanted (errors.Fetch x) h io = uncounted was is (errors.Fetch x) (same-uncounted (ref_name_of wanted) (revision_of wanted) h.why.cause (errors.Fetch x) h.why.as_told)
head-counted was is may_fail files files_left before after map message remote wanted (errors.FindRevision x) h io = tt
head-counted was is may_fail files files_left before after map message remote wanted (errors.PeelRevision x) h io = tt
head-counted was is may_fail files files_left before after map message remote wanted errors.NoMemory h io = tt

pub finished-counted : (was is : Meters) (may_fail : Bool) (files files_left : Option Tree) (draft : CloneState) (name : List ℕ) (section : Option Contents) (map : RefMap) (before after : RepositoryValue) (e : Error)
    → IsUnfinished may_fail files files_left draft name section map before after e → (e ≡ errors.SaveConfigIo → Rose was.files is.files) → IsCounted was is e
finished-counted was is may_fail files files_left draft name section map before after e h io =
    elim h.by [
      | inl m ↦ subst (IsCounted was is) (sym m.memory) tt
      | inr u ↦ head-counted was is may_fail files files_left u.between after map _ name draft.choices.wanted e u.why io
    ]
