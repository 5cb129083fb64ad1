-- The entries of a worker: what it took, and a commit of edits on names of its share.
use Rattle.std.proofs.Common.{◌≡◌, ◌⊎◌, ℕ, zero, suc, Bool, false, List, [], ◌∷◌, ◌++◌, map, Option, Some, None, Result, Ok, Err, refl, sym, ap, ◌∙◌, subst, ⊎_elim}
use Rattle.std.specs.Prelude.{slice_get, ⊤}
use Rattle.std.specs.FinMap as finmap
use Rattle.fetch_base.specs.declared.id.ObjectId.{ObjectId}
use Rattle.fetch_store.specs.declared.missing.Missing.{Missing}
use Rattle.fetch_refs.specs.declared.edit.RefEdit.{RefEdit}
use Rattle.fetch_refs.specs.declared.log.Signature.{Signature}
use Rattle.fetch_refs.specs.declared.target.Target.{Target}
use Rattle.fetch_update.specs.Outcomes.{outcome_of}
use Rattle.fetch_update.specs.Policy.{Policy}
use Rattle.fetch_update.specs.declared.update.Error.{Error as UpdateError}
use Rattle.fetch_update.specs.declared.update.Outcome.{Outcome as Updates}
use Rattle.fetch_map.specs.declared.mapping.RefMap.{RefMap}
use Rattle.fetch_conversation.specs.declared.conversing.Received.{Received}
use Rattle.fetch_conversation.specs.declared.fetch.Error.{Error as ReceiveError}
use Rattle.fetch_conversation.specs.declared.fetch.Error.TheVariants as receive
use Rattle.fetch_conversation.specs.declared.prepare.Error.{Error as PrepareError}
use Rattle.fetch_conversation.specs.declared.prepare.Error.TheVariants as prepare
use Rattle.fetch_remote.specs.Judging.{judged_as, judged_of}
use Rattle.fetch_remote.specs.Remotes.{RemoteValue}
use Rattle.fetch_remote.specs.Stages.{Told, inquiry_in}
use Rattle.fetch_remote.specs.declared.fetching.options.FetchOptions.{FetchOptions}
use Rattle.fetch_remote.specs.declared.fetching.fetch_error.FetchError.TheVariants as fetch
use Rattle.fetch_remote.specs.declared.fetching.outcome.Outcome.{Outcome}
use Rattle.fetch_journal.specs.declared.entry.Entry.{Entry}
use Rattle.fetch_journal.specs.declared.entry.Entry.TheVariants.{Take, Commit, Delete}
use Rattle.fetch_journal.specs.declared.error.SharedError.{SharedError}
use Rattle.fetch_journal.specs.declared.error.SharedError.TheVariants as errors
use Rattle.fetch_shared.specs.declared.receipt.Receipt.{Receipt}
use Rattle.fetch_shared.specs.PackTaken.{take_entries}
use Rattle.fetch_shared.specs.Fetching.{Call, HasConversed, IsSharedFetch, IsSharedRefused, IsStopped, RanOut, course_in, matter_in, own}
use Rattle.fetch_journal.specs.Journals.{entries_of}
use Rattle.fetch_shared.specs.Applying.{Commits, Course, ForgotEarly, ForgotLate, ForgotMaking, HasCommitted, HasJudged, HasTaken, IsForgotten, IsUncommitted, IsUnjudged, IsUnkept, IsUnremoved, IsUntaken, Matter, commit_entry, reply_in}
use Rattle.fetch_shared.specs.Conversed.{Line, given_to}
use Rattle.fetch_race.specs.Racing.{HasRaced, IsAnswered, Race}
use Rattle.fetch_race.specs.declared.job.Job.{Job}
use Rattle.fetch_mirror.specs.Shares.{AreOwnNames, as_itself}
use Rattle.fetch_mirror.specs.Mirroring.{worker_job, worker_options, worker_remote}
use Rattle.fetch_mirror.proofs.EditsNamed.{outcome_so}
use Rattle.fetch_mirror.proofs.OwnNames.{IsIn, share_named}
use Rattle.fetch_mirror.proofs.ToldListed.{told_listed}

-- each edit is on a name of the share
abbrev pub AreIn : List (List ℕ) → List RefEdit → Type 0
AreIn share edits = (i : ℕ) (e : RefEdit) → slice_get edits i ≡ Some e → IsIn share e.name

-- a take, or a commit of such edits
abbrev pub IsOwnEntry : List (List ℕ) → Entry → Type 0
IsOwnEntry share (Take pass ids shallow unshallow) = ⊤
IsOwnEntry share (Commit pass edits committer) = AreIn share edits
IsOwnEntry share (Delete pass names) = ⊥

-- so is each entry
abbrev pub AreOwnEntries : List (List ℕ) → List Entry → Type 0
AreOwnEntries share entries = (i : ℕ) (e : Entry) → slice_get entries i ≡ Some e → IsOwnEntry share e

none_own : (share : List (List ℕ)) → AreOwnEntries share []
none_own share i e at = absurd cc

one_own : (share : List (List ℕ)) (x : Entry) → IsOwnEntry share x → AreOwnEntries share (x ∷ [])
one_own share x h zero e at = let same : x ≡ e = cc in subst (IsOwnEntry share) same h
one_own share x h (suc i) e at = absurd cc

both_own : (share : List (List ℕ)) (xs ys : List Entry) → AreOwnEntries share xs → AreOwnEntries share ys → AreOwnEntries share (xs ++ ys)
both_own share [] ys f h = h
both_own share (x ∷ xs) ys f h = there (both_own share xs ys (λ k y is. f (suc k) y is) h)
  where
    there : AreOwnEntries share (xs ++ ys) → AreOwnEntries share (x ∷ (xs ++ ys))
    there more zero e at = f 0 e at
    there more (suc i) e at = more i e at

takes_own : (share : List (List ℕ)) (number : ℕ) (r : Option Received) → AreOwnEntries share (take_entries number r)
takes_own share number None = none_own share
takes_own share number (Some r) = one_own share _ tt

-- what is judged is an outcome
judged_by : (r : Result Updates UpdateError) (o : Updates) → judged_as r ≡ Ok o → r ≡ Ok o
judged_by (Ok x) o is = let same : x ≡ o = cc in ap (λ (y : Updates). Ok y) same
judged_by (Err e) o is = absurd cc

pub judged_so : (p : Policy) (m : RefMap) (o : Updates) → judged_of p m ≡ Ok o → outcome_of p m.refspecs m.extra_refspecs m.mappings ≡ Ok o
unfolding judged_of
judged_so p m o is = judged_by (outcome_of p m.refspecs m.extra_refspecs m.mappings) o is

-- a call of a worker with this share, by a pass that had no entry
pub record IsWorkerCall (share : List (List ℕ)) (bound : ℕ) (c : Call) : Type 0 where
  pub names : AreOwnNames share
  pub remote : c.given.remote ≡ worker_remote (map as_itself share)
  pub options : c.given.options ≡ worker_options bound
  pub fresh : own c ≡ []

module _ (share : List (List ℕ)) (bound : ℕ) (line : Line) (c : Call) (w : IsWorkerCall share bound c) where
  -- the edits that are judged for what was told
  pub edits_in : (count : ℕ) (told : Told) (h : HasConversed line c count told) (judged : ℕ) (updates : Updates) → HasJudged (matter_in c.given h.seen.repository.state told) (course_in c h.seen.journal) judged updates → AreIn share updates.edits
  edits_in count told h judged updates by i e at =
      let listed = told_listed c.given h.seen.repository.state told (h.ended.rest ++ []) (h.said ++ []) (h.ended.answered []) in
      share_named share w.names (inquiry_in c.given) told.listed (ap (λ (r : RemoteValue). r.fetch_specs) w.remote) (ap (λ (r : RemoteValue). r.tags) w.remote) (ap (λ (o : FetchOptions). o.map.extra_refspecs) w.options) listed e.name
      (outcome_so _ told.listed.ref_map.refspecs told.listed.ref_map.extra_refspecs told.listed.ref_map.mappings updates (judged_so _ told.listed.ref_map updates by.verdicts) i e at)

  nothing : (entries : List Entry) → entries ≡ own c → AreOwnEntries share entries
  nothing entries is = subst (AreOwnEntries share) (sym (is ∙ w.fresh)) (none_own share)

  taken : (entries : List Entry) (r : Option Received) → entries ≡ own c ++ take_entries c.before.number r → AreOwnEntries share entries
  taken entries r is = subst (AreOwnEntries share) (sym (is ∙ ap (λ (l : List Entry). l ++ take_entries c.before.number r) w.fresh)) (takes_own share c.before.number r)

  committed : (entries before : List Entry) (edits : List RefEdit) (committer : Signature) → AreIn share edits → AreOwnEntries share before → entries ≡ before ++ Commit c.before.number edits committer ∷ [] → AreOwnEntries share entries
  committed entries before edits committer all h is = subst (AreOwnEntries share) (sym is) (both_own share before (Commit c.before.number edits committer ∷ []) h (one_own share (Commit c.before.number edits committer) all))

  abbrev front : List Entry
  front = entries_of c.before.number c.after.front

  module _ (receipt : Receipt) where
    -- what stands where the verdicts saw it, and nothing behind it
    behind : (m : Matter) (k : Course) (judged : ℕ) (t : HasTaken m k judged) → k.number ≡ c.before.number → k.own ≡ own c → front ≡ entries_of k.number t.seen.journal → AreOwnEntries share front
    behind m k judged t number owned is = taken front (reply_in m) (is ∙ t.added ∙ ap (λ (l : List Entry). l ++ take_entries k.number (reply_in m)) owned ∙ ap (λ (n : ℕ). own c ++ take_entries n (reply_in m)) number)

    disconnected : (link : Missing) → IsStopped line c receipt (errors.Disconnected link) → AreOwnEntries share front
    disconnected link h =
        let u : IsUntaken (matter_in c.given h.conversed.seen.repository.state h.told) (course_in c h.conversed.seen.journal) h.judged h.place (errors.Disconnected link) = h.unapplied in
        nothing front u.none

    collided : (id : ObjectId) → IsStopped line c receipt (errors.Collision id) → AreOwnEntries share front
    collided id h =
        let u : IsUntaken (matter_in c.given h.conversed.seen.repository.state h.told) (course_in c h.conversed.seen.journal) h.judged h.place (errors.Collision id) = h.unapplied in
        nothing front u.none

    uncommitted : (name : List ℕ) (found : Option Target) → IsStopped line c receipt (errors.EditReferences name found) → AreOwnEntries share front
    uncommitted name found h =
        let m = matter_in c.given h.conversed.seen.repository.state h.told in
        let k = course_in c h.conversed.seen.journal in
        let u : IsUncommitted m k h.judged h.place (errors.EditReferences name found) = h.unapplied in
        behind m k u.count u.by.taken refl refl u.none

    unkept : (path : List ℕ) → IsStopped line c receipt (errors.Fetch (fetch.Receive (receive.KeepFile path))) → AreOwnEntries share front
    unkept path h =
        let m = matter_in c.given h.conversed.seen.repository.state h.told in
        let u : IsUnkept m (course_in c h.conversed.seen.journal) h.judged h.place path = h.unapplied in
        taken front (reply_in m) u.added

    unjudged : (cause : UpdateError) → IsStopped line c receipt (errors.Fetch (fetch.Receive (receive.UpdateRefs cause))) → AreOwnEntries share front
    unjudged cause h =
        let m = matter_in c.given h.conversed.seen.repository.state h.told in
        let k = course_in c h.conversed.seen.journal in
        let u : IsUnjudged m k h.judged h.place cause = h.unapplied in
        behind m k u.count u.taken refl refl u.none

    wet : c.given.options.dry_run ≡ false
    wet = ap (λ (o : FetchOptions). o.dry_run) w.options

    applied : (count : ℕ) (told : Told) (h : HasConversed line c count told) (judged : ℕ) (updates : Updates) (place : Option ℕ) (by : HasJudged (matter_in c.given h.seen.repository.state told) (course_in c h.seen.journal) judged updates)
        → Commits c.given.options.dry_run c.before.number judged (entries_of c.before.number by.taken.seen.journal) c.after.front (commit_entry (matter_in c.given h.seen.repository.state told) c.before.number updates) place → AreOwnEntries share front
    applied count told h judged updates place by commits =
        let seen = entries_of c.before.number by.taken.seen.journal in
        let m = matter_in c.given h.seen.repository.state told in
        let done : HasCommitted c.before.number judged seen c.after.front (commit_entry m c.before.number updates) place = subst (λ (dry : Bool). Commits dry c.before.number judged seen c.after.front (commit_entry m c.before.number updates) place) wet commits in
        committed front seen updates.edits m.setup.settings.committer (edits_in count told h judged updates by) (taken seen (reply_in m) by.taken.added) done.added

    unremoved : (path : List ℕ) → IsStopped line c receipt (errors.Fetch (fetch.Receive (receive.RemovePackKeepFile path))) → AreOwnEntries share front
    unremoved path h =
        let u : IsUnremoved (matter_in c.given h.conversed.seen.repository.state h.told) (course_in c h.conversed.seen.journal) h.judged h.place path = h.unapplied in
        applied h.count h.told h.conversed u.count u.updates h.place u.by u.commits

    forgotten : IsStopped line c receipt errors.NoMemory → AreOwnEntries share front
    forgotten h =
        let m = matter_in c.given h.conversed.seen.repository.state h.told in
        let k = course_in c h.conversed.seen.journal in
        let u : IsForgotten m k h.judged h.place = h.unapplied in
        ⊎_elim
        (λ (early : ForgotEarly k h.judged). nothing front early.none)
        (λ (others : ForgotMaking m k h.judged ⊎ ForgotLate m k h.judged). ⊎_elim
        (λ (making : ForgotMaking m k h.judged). taken front (reply_in m) making.added)
        (λ (late : ForgotLate m k h.judged). taken front (reply_in m) late.added)
        others)
        u.stands

    received : (e : ReceiveError) → IsSharedRefused line c receipt (errors.Fetch (fetch.Receive e)) → AreOwnEntries share front
    received (receive.NoMapping specs count) h = nothing front h.none
    received (receive.IncompatibleObjectHash local remote) h = nothing front h.none
    received (receive.Disconnected link) h = absurd h
    received (receive.RejectShallowRemoteConfig value) h = nothing front h.none
    received (receive.NegotiationAlgorithmConfig value) h = nothing front h.none
    received (receive.PackThreads value) h = nothing front h.none
    received (receive.Fetch e) h = nothing front h.none
    received receive.Client h = nothing front h.none
    received receive.Interrupted h = nothing front h.none
    received (receive.RejectShallowRemote id) h = nothing front h.none
    received (receive.Pack e) h = nothing front h.none
    received (receive.Collision id) h = nothing front h.none
    received receive.NoMemory h = absurd h
    received (receive.KeepFile path) h = unkept path h
    received (receive.UpdateRefs e) h = unjudged e h
    received (receive.RemovePackKeepFile path) h = unremoved path h

    prepared : (e : PrepareError) → IsSharedRefused line c receipt (errors.Fetch (fetch.Prepare e)) → AreOwnEntries share front
    prepared prepare.MissingRefSpecs h = nothing front h.none
    prepared (prepare.RefMap e) h = nothing front h.none
    prepared prepare.NoMemory h = absurd h

    refused : (e : SharedError) → IsSharedRefused line c receipt e → AreOwnEntries share front
    refused (errors.NotClosed link) h = absurd h
    refused (errors.Disconnected link) h = disconnected link h
    refused (errors.Collision id) h = collided id h
    refused (errors.EditReferences name found) h = uncommitted name found h
    refused (errors.Fetch (fetch.Prepare e)) h = prepared e h
    refused (errors.Fetch (fetch.Receive e)) h = received e h
    refused (errors.Fetch fetch.NoMemory) h = absurd h
    refused (errors.Delete e) h = absurd h
    refused errors.NoMemory h = ⊎_elim (λ (r : RanOut line c receipt). nothing front r.none) (λ (s : IsStopped line c receipt errors.NoMemory). forgotten s) h

    fetched : (outcome : Outcome) → IsSharedFetch line c receipt outcome → AreOwnEntries share front
    fetched outcome f = applied f.count f.told f.conversed f.judged f.applied.updates f.place f.applied.by f.applied.commits

    pub answered : (answer : Result Outcome SharedError) → IsAnswered line c receipt answer → AreOwnEntries share (entries_of c.before.number c.after.front)
    answered (Ok outcome) h = fetched outcome h
    answered (Err e) h = refused e h

-- the entries of a job that fetches a share, in the journal of its race
pub raced_own : {P : Type 0} (race : Race P) (journal : List Entry) (number bound : ℕ) (share : List (List ℕ)) (job : Job P) (owner : P) (answer : Result Outcome SharedError) (peer : P) → AreOwnNames share → job ≡ worker_job bound (map as_itself share) owner
    → HasRaced race journal number job answer peer → AreOwnEntries share (entries_of number journal)
raced_own {P} race journal number bound share job owner answer peer names job_is h =
    let line : Line = record { answers = race.answers; old = race.told job.peer; new = race.told peer } in
    let call : Call = record { given = given_to job.remote job.options h.before; before = h.before; after = h.after; known = Some race.trees; files = Some finmap.empty; left = h.done.left } in
    let mine : IsWorkerCall share bound call = record {
      names = names;
      remote = ap (λ (j : Job P). j.remote) job_is;
      options = ap (λ (j : Job P). j.options) job_is;
      fresh = ap (entries_of h.before.number) h.fresh.front_is;
    } in
    subst (AreOwnEntries share) (sym (h.entries ∙ ap (λ (n : ℕ). entries_of n h.after.front) (sym h.fresh.number_is)))
    (answered share bound line call mine h.receipt answer h.done.answered)
