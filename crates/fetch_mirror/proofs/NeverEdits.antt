-- No worker is refused since a reference isn't as its verdicts saw it: no other worker's entry is on a name of its share.
use Rattle.std.proofs.Common.{◌≡◌, ◌≢◌, ℕ, zero, suc, ◌+◌, ◌<◌, ◌≤◌, ◌%◌, ◌==◌, Bool, true, false, cond, List, [], ◌∷◌, ◌++◌, length, filter, Option, Some, None, Result, Err, refl, sym, ap, ◌∙◌, subst, ⊎_elim, arith}
use Rattle.std.specs.Prelude.{find, option_map, slice_get}
use Rattle.std.specs.FinMap as finmap
use Rattle.std.specs.List.{Contains}
use Rattle.std.proofs.lemmas.Bool.{cases_lt, eq-eqb}
use Rattle.std.proofs.lemmas.Option.{slice_get_within}
use Rattle.fetch_refs.specs.Expectations.{fails}
use Rattle.fetch_refs.specs.Names.{Names, name_cmp}
use Rattle.fetch_refs.specs.declared.edit.RefEdit.{RefEdit}
use Rattle.fetch_refs.specs.declared.target.Target.{Target}
use Rattle.fetch_update.proofs.Wholes.{none_refused}
use Rattle.fetch_remote.specs.RepositoryValues.{RepositoryValue}
use Rattle.fetch_remote.specs.Applying.{policy_in}
use Rattle.fetch_remote.specs.declared.fetching.outcome.Outcome.{Outcome}
use Rattle.fetch_journal.specs.declared.entry.Entry.{Entry}
use Rattle.fetch_journal.specs.declared.entry.Entry.TheVariants.{Take, Commit, Delete}
use Rattle.fetch_journal.specs.declared.error.SharedError.{SharedError}
use Rattle.fetch_journal.specs.declared.error.SharedError.TheVariants as errors
use Rattle.fetch_shared.specs.Fetching.{Call, IsStopped, course_in, matter_in}
use Rattle.fetch_journal.specs.Journals.{entries_of, pass_of}
use Rattle.fetch_journal.specs.Replays.{Outline, outline, replay}
use Rattle.fetch_shared.specs.Applying.{Course, IsUncommitted, Matter}
use Rattle.fetch_journal.specs.Shared.{IsKept, SharedValue}
use Rattle.fetch_shared.specs.Conversed.{Line, given_to}
use Rattle.fetch_journal.proofs.Refusals.{met_commit}
use Rattle.fetch_race.specs.Racing.{AreRaced, HasRaced, Race}
use Rattle.fetch_race.specs.declared.job.Job.{Job}
use Rattle.fetch_race.proofs.Rows.{there}
use Rattle.fetch_mirror.specs.Mirroring.{AreJobs}
use Rattle.fetch_mirror.specs.Shares.{AreOwnNames, dealt_to}
use Rattle.fetch_mirror.proofs.Divided.{divided}
use Rattle.fetch_mirror.proofs.OwnEntries.{AreIn, AreOwnEntries, IsOwnEntry, IsWorkerCall, edits_in, judged_so, raced_own}
use Rattle.fetch_mirror.proofs.OwnNames.{IsIn}
use Rattle.fetch_mirror.proofs.Places.{contains_at}
use Rattle.fetch_mirror.proofs.Quiet.{IsOff, replay_then, replays, still_met}

-- ---- places

-- an element that passes stands among those that do
pub in_filter : {X : Type 0} (test : X → Bool) (xs : List X) (k : ℕ) (x : X) → slice_get xs k ≡ Some x → test x ≡ true → (j : ℕ) × (slice_get (filter test xs) j ≡ Some x)
in_filter test [] k x at passes = absurd cc
in_filter {X} test (z ∷ xs) zero x at passes =
    let same : z ≡ x = cc in
    (0, ap (λ (b : Bool). slice_get (cond b (z ∷ filter test xs) (filter test xs)) 0) (ap test same ∙ passes) ∙ at)
in_filter {X} test (z ∷ xs) (suc k) x at passes = by (test z) (in_filter test xs k x at passes)
  where
    by : (b : Bool) → (j : ℕ) × (slice_get (filter test xs) j ≡ Some x) → (j : ℕ) × (slice_get (cond b (z ∷ filter test xs) (filter test xs)) j ≡ Some x)
    by true h = (suc h.0, h.1)
    by false h = h

behind_all : {X : Type 0} (xs ys : List X) (k : ℕ) (x : X) → slice_get ys k ≡ Some x → slice_get (xs ++ ys) (length xs + k) ≡ Some x
behind_all [] ys k x at = ap (slice_get ys) (omega arith) ∙ at
behind_all (z ∷ xs) ys k x at = let place : length (z ∷ xs) + k ≡ suc (length xs + k) = omega arith in ap (slice_get (z ∷ (xs ++ ys))) place ∙ behind_all xs ys k x at

pub before_more : {X : Type 0} (xs ys : List X) (k : ℕ) (x : X) → slice_get xs k ≡ Some x → slice_get (xs ++ ys) k ≡ Some x
before_more [] ys k x at = absurd cc
before_more (z ∷ xs) ys zero x at = at
before_more (z ∷ xs) ys (suc k) x at = before_more xs ys k x at

pub entries_then : (n : ℕ) (xs ys : List Entry) → entries_of n (xs ++ ys) ≡ entries_of n xs ++ entries_of n ys
entries_then n [] ys = refl
entries_then n (x ∷ xs) ys = by (pass_of x == n) (entries_then n xs ys)
  where
    by : (b : Bool) → entries_of n (xs ++ ys) ≡ entries_of n xs ++ entries_of n ys → cond b (x ∷ entries_of n (xs ++ ys)) (entries_of n (xs ++ ys)) ≡ cond b (x ∷ entries_of n xs) (entries_of n xs) ++ entries_of n ys
    by true is = ap (λ (l : List Entry). x ∷ l) is
    by false is = is

nothing_more : {X : Type 0} (xs ys : List X) → xs ++ ys ≡ xs → ys ≡ []
nothing_more [] ys is = is
nothing_more (x ∷ xs) ys is = nothing_more xs ys cc

pub own_number : (n : ℕ) → (n == n) ≡ true
own_number n = eq-eqb n n refl

pub number_passes : (n : ℕ) (e : Entry) → pass_of e ≡ n → (pass_of e == n) ≡ true
number_passes n e is = ap (λ (m : ℕ). m == n) is ∙ own_number n

-- names of two shares are apart
shares_apart : (workers : ℕ) (names : List (List ℕ)) → AreOwnNames names → (i j : ℕ) (n m : List ℕ) → IsIn (dealt_to workers i names) n → IsIn (dealt_to workers j names) m → i ≢ j → n ≢ m
shares_apart workers names own i j n m a b apart same =
    let d = divided workers names in
    let x = d.among i n (contains_at (dealt_to workers i names) a.at n a.there) in
    let y = d.among j m (contains_at (dealt_to workers j names) b.at m b.there) in
    let place : x.0 ≡ y.0 = own.once x.0 y.0 n x.1 (y.1 ∙ ap (λ (z : List ℕ). Some z) (sym same)) in
    apart (sym x.2 ∙ ap (λ (k : ℕ). k % workers) place ∙ y.2)

module _ {P : Type 0} (race : Race P) (workers bound : ℕ) (names : List (List ℕ)) (own : AreOwnNames names) (given : List P) (jobs : List (Job P)) (jobs_are : AreJobs workers bound names given jobs)
    (journal : List Entry) (answers : List (Result Outcome SharedError)) (peers : List P) (raced : AreRaced race journal jobs answers peers) where
  abbrev share : ℕ → List (List ℕ)
  share n = dealt_to workers n names

  share_own : (n : ℕ) → AreOwnNames (share n)
  share_own n = (divided workers names).own n own

  -- the entries of each worker
  pub each_own : (n : ℕ) → n < length jobs → AreOwnEntries (share n) (entries_of n journal)
  each_own n low =
      let job = there jobs n low in
      let answer = there answers n (subst (λ (k : ℕ). n < k) (sym raced.answered) low) in
      let peer = there peers n (subst (λ (k : ℕ). n < k) (sym raced.given_back) low) in
      let j = jobs_are.each n job.0 job.1 in
      raced_own race journal n bound (share n) job.0 j.0 answer.0 peer.0 (share_own n) j.2 (raced.each n job.0 answer.0 peer.0 job.1 answer.1 peer.1)

  -- each entry is its worker's
  pub entry_own : (k : ℕ) (e : Entry) → slice_get journal k ≡ Some e → IsOwnEntry (share (pass_of e)) e
  entry_own k e at =
      let n = pass_of e in
      let placed = in_filter (λ (x : Entry). pass_of x == n) journal k e at (own_number n) in
      ⊎_elim
      (λ (low : n < length jobs). each_own n low placed.0 e placed.1)
      (λ (high : length jobs ≤ n). absurd (nowhere (entries_of n journal) placed.0 e (raced.others n high) placed.1))
      (cases_lt n (length jobs))
    where
      nowhere : (entries : List Entry) (j : ℕ) (x : Entry) → entries ≡ [] → slice_get entries j ≡ Some x → ⊥
      nowhere [] j x is at = absurd cc
      nowhere (y ∷ entries) j x is at = absurd cc

  -- an entry of another worker isn't on a name of this one's share
  pub others_off : (i : ℕ) (name : List ℕ) → IsIn (share i) name → (e : Entry) → pass_of e ≢ i → IsOwnEntry (share (pass_of e)) e → IsOff name e
  others_off i name mine (Take pass ids shallow unshallow) apart o = tt
  others_off i name mine (Commit pass edits committer) apart o = λ k x at. shares_apart workers names own i pass name x.name mine (o k x at) (λ same. apart (sym same))
  others_off i name mine (Delete pass others) apart o = absurd o

  -- a name that isn't among these is on no entry
  elsewhere_off : (name : List ℕ) → (Contains names name → ⊥) → (e : Entry) → IsOwnEntry (share (pass_of e)) e → IsOff name e
  elsewhere_off name absent (Take pass ids shallow unshallow) o = tt
  elsewhere_off name absent (Commit pass edits committer) o = λ k x at same.
      let mine = o k x at in
      let among = (divided workers names).among pass x.name (contains_at (share pass) mine.at x.name mine.there) in
      absent (contains_at names among.0 name (among.1 ∙ ap (λ (n : List ℕ). Some n) (sym same)))
  elsewhere_off name absent (Delete pass others) o = absurd o

  -- so it stays absent
  pub none_elsewhere : (repository : RepositoryValue) → IsKept (record { opening = race.opening; repository = repository; journal = journal }) → race.opening.state.refs.names ≡ finmap.empty
      → (name : List ℕ) → (Contains names name → ⊥) → finmap.get repository.state.refs.names name ≡ None
  none_elsewhere repository kept nothing name absent =
      ap (λ (o : Outline). finmap.get o.refs.names name) kept.state.told
      ∙ replays (outline race.opening) name journal (λ k e at. elsewhere_off name absent e (entry_own k e at))
      ∙ ap (λ (n : Names). finmap.get n name) nothing
      ∙ finmap.get-empty name_cmp name

  module _ (i : ℕ) (job : Job P) (owner peer : P) (job_at : slice_get jobs i ≡ Some job) (name : List ℕ) (found : Option Target) (h : HasRaced race journal i job (Err (errors.EditReferences name found)) peer) where
    abbrev line : Line
    line = record { answers = race.answers; old = race.told job.peer; new = race.told peer }

    abbrev call : Call
    call = record { given = given_to job.remote job.options h.before; before = h.before; after = h.after; known = Some race.trees; files = Some finmap.empty; left = h.done.left }

    abbrev stopped : IsStopped line call h.receipt (errors.EditReferences name found)
    stopped = h.done.answered

    abbrev m : Matter
    m = matter_in call.given stopped.conversed.seen.repository.state stopped.told

    abbrev k : Course
    k = course_in call stopped.conversed.seen.journal

    abbrev u : IsUncommitted m k stopped.judged stopped.place (errors.EditReferences name found)
    u = stopped.unapplied

    mine : IsWorkerCall (share i) bound call
    mine =
        let j = jobs_are.each i job job_at in
        record {
          names = share_own i;
          remote = ap (λ (x : Job P). x.remote) j.2;
          options = ap (λ (x : Job P). x.options) j.2;
          fresh = ap (entries_of h.before.number) h.fresh.front_is;
        }

    abbrev edits : List RefEdit
    edits = u.updates.edits

    edits_mine : AreIn (share i) edits
    edits_mine = edits_in (share i) bound line call mine stopped.count stopped.told stopped.conversed u.count u.updates u.by

    abbrev saw : SharedValue
    saw = u.by.taken.seen

    abbrev now : SharedValue
    now = u.refused.1.found

    abbrev rest : List Entry
    rest = u.by.taken.at.begins.rest

    whole : saw.journal ++ rest ≡ h.after.front
    whole = u.by.taken.at.begins.is

    -- behind what the verdicts saw there is no entry of this worker
    none_behind : entries_of h.before.number rest ≡ []
    none_behind =
        nothing_more (entries_of h.before.number saw.journal) (entries_of h.before.number rest)
        (sym (entries_then h.before.number saw.journal rest) ∙ ap (entries_of h.before.number) whole ∙ u.none)

    apart : (q : ℕ) (e : Entry) → slice_get rest q ≡ Some e → pass_of e ≢ i
    apart q e at same =
        let placed = in_filter (λ (x : Entry). pass_of x == h.before.number) rest q e at (number_passes h.before.number e (same ∙ sym h.fresh.number_is)) in
        nowhere (entries_of h.before.number rest) placed.0 e none_behind placed.1
      where
        nowhere : (entries : List Entry) (j : ℕ) (x : Entry) → entries ≡ [] → slice_get entries j ≡ Some x → ⊥
        nowhere [] j x is at = absurd cc
        nowhere (y ∷ entries) j x is at = absurd cc

    in_journal : (q : ℕ) (e : Entry) → slice_get rest q ≡ Some e → slice_get journal (length saw.journal + q) ≡ Some e
    in_journal q e at =
        let place = length saw.journal + q in
        let front : slice_get h.after.front place ≡ Some e = ap (λ (l : List Entry). slice_get l place) (sym whole) ∙ behind_all saw.journal rest q e at in
        ap (λ (l : List Entry). slice_get l place) (sym h.seen.is) ∙ before_more h.after.front h.seen.rest place e front

    still : (n : List ℕ) → IsIn (share i) n → finmap.get now.repository.state.refs.names n ≡ finmap.get saw.repository.state.refs.names n
    still n is_mine =
        let opening : Outline = outline k.opening in
        let told_now : outline now.repository ≡ replay opening h.after.front = u.refused.1.kept.state.told ∙ ap (λ (r : RepositoryValue). replay (outline r) now.journal) u.refused.1.opened ∙ ap (replay opening) u.refused.1.journal in
        let told_then : outline saw.repository ≡ replay opening saw.journal = u.by.taken.at.kept.state.told ∙ ap (λ (r : RepositoryValue). replay (outline r) saw.journal) u.by.taken.at.opened in
        ap (λ (o : Outline). finmap.get o.refs.names n) (told_now ∙ ap (replay opening) (sym whole) ∙ replay_then opening saw.journal rest)
        ∙ replays (replay opening saw.journal) n rest (λ q e at. others_off i n is_mine e (apart q e at) (entry_own (length saw.journal + q) e (in_journal q e at)))
        ∙ sym (ap (λ (o : Outline). finmap.get o.refs.names n) told_then)

    met : find (fails now.repository.state.refs.names) edits ≡ None
    met =
        still_met saw.repository.state.refs.names now.repository.state.refs.names edits (λ q e at. still e.name (edits_mine q e at))
        (met_commit saw.repository.state.refs.names edits
        (none_refused (policy_in saw.repository.state m.options u.by.trees) stopped.told.listed.ref_map.refspecs stopped.told.listed.ref_map.extra_refspecs stopped.told.listed.ref_map.mappings u.updates
        (judged_so (policy_in saw.repository.state m.options u.by.trees) stopped.told.listed.ref_map u.updates u.by.verdicts)))

    pub never : ⊥
    never = nothing_fails (find (fails now.repository.state.refs.names) edits) met u.refused.1.cause
      where
        nothing_fails : (o : Option RefEdit) → o ≡ None → option_map (λ (e : RefEdit). errors.EditReferences e.name (finmap.get now.repository.state.refs.names e.name)) o ≡ Some (errors.EditReferences name found) → ⊥
        nothing_fails None is cause = absurd cc
        nothing_fails (Some e) is cause = absurd cc

  pub never_edits : (i : ℕ) (name : List ℕ) (found : Option Target) → slice_get answers i ≡ Some (Err (errors.EditReferences name found)) → ⊥
  never_edits i name found at =
      let low : i < length jobs = subst (λ (n : ℕ). i < n) raced.answered (slice_get_within answers i (Err (errors.EditReferences name found)) at) in
      let job = there jobs i low in
      let peer = there peers i (subst (λ (n : ℕ). i < n) (sym raced.given_back) low) in
      never i job.0 job.0.peer peer.0 job.1 name found (raced.each i job.0 (Err (errors.EditReferences name found)) peer.0 job.1 at peer.1)
