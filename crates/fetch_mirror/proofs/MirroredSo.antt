-- What is mirrored, from what became of the workers.
use Rattle.std.proofs.Common.{◌≡◌, ◌≢◌, ℕ, zero, suc, ◌<◌, All, List, [], ◌∷◌, ◌++◌, length, map, take, drop, Option, Some, None, Result, Ok, Err, refl, sym, ap, ◌∙◌, subst, ⊎_elim, arith}
use Rattle.std.specs.Prelude.{slice_get, IfErr, IfOk, IsOk, IsSome, OnOk}
use Rattle.std.specs.FinMap as finmap
use Rattle.std.specs.List.{Contains}
use Rattle.std.specs.Option.{option_map}
use Rattle.std.proofs.lemmas.List.{length-map}
use Rattle.fetch_refs.specs.declared.target.Target.{Target}
use Rattle.fetch_remote.specs.RepositoryValues.{RepositoryValue}
use Rattle.fetch_remote.specs.declared.fetching.outcome.Outcome.{Outcome}
use Rattle.fetch_journal.specs.declared.entry.Entry.{Entry}
use Rattle.fetch_journal.specs.declared.error.SharedError.{SharedError}
use Rattle.fetch_journal.specs.declared.error.SharedError.TheVariants as shared
use Rattle.fetch_shared.specs.declared.receipt.Receipt.{Receipt}
use Rattle.fetch_journal.specs.Journals.{pass_of}
use Rattle.fetch_journal.specs.Shared.{IsKept}
use Rattle.fetch_race.specs.Passes.{HaveRaced, answer_in}
use Rattle.fetch_race.specs.declared.job.Job.{Job}
use Rattle.fetch_race.specs.declared.job.JobRun.{JobRun}
use Rattle.fetch_race.proofs.Races.{all_answered, told_so}
use Rattle.fetch_race.proofs.Rows.{front_is, mapped_at, unmapped}
use Rattle.fetch_mirror.specs.declared.error.MirrorError.{MirrorError}
use Rattle.fetch_mirror.specs.declared.error.MirrorError.TheVariants as errors
use Rattle.fetch_mirror.specs.declared.options.Mirrored.{Mirrored}
use Rattle.fetch_mirror.specs.Lent.{all_owning, owning}
use Rattle.fetch_mirror.specs.Mirroring.{AreJobs, AreUnrefused, AreWorkers, Given, HasListed, HasMirrored, HaveFetched, IsFew, IsUnmirrored, IsUnrefused, IsWorkerRefused, TellsFirst, race_of, worker_job}
use Rattle.fetch_mirror.specs.Opening.{empty_mirror}
use Rattle.fetch_mirror.specs.Shares.{AreOwnNames, share_of}
use Rattle.fetch_mirror.proofs.NamesOwn.{listed_own}
use Rattle.fetch_mirror.proofs.NeverEdits.{never_edits, none_elsewhere}
use Rattle.fetch_mirror.proofs.Lent.{count_owning, owned_at, owning_there, peers_owning, told_owning}

-- ---- places

in_front : {X : Type 0} (xs ys : List X) (i : ℕ) (x : X) → slice_get xs i ≡ Some x → slice_get (xs ++ ys) i ≡ Some x
in_front [] ys i x at = absurd cc
in_front (z ∷ xs) ys zero x at = at
in_front (z ∷ xs) ys (suc i) x at = in_front xs ys i x at

behind_front : {X : Type 0} (n : ℕ) (xs ys : List X) → n ≡ length xs → drop n (xs ++ ys) ≡ ys
behind_front zero [] ys is = refl
behind_front zero (x ∷ xs) ys is = absurd (omega arith)
behind_front (suc n) [] ys is = absurd (omega arith)
behind_front (suc n) (x ∷ xs) ys is = behind_front n xs ys (omega arith)

in_taken : {X : Type 0} (n : ℕ) (xs : List X) (i : ℕ) (x : X) → i < n → slice_get xs i ≡ Some x → slice_get (take n xs) i ≡ Some x
in_taken zero xs i x low at = absurd (omega arith)
in_taken (suc n) [] i x low at = absurd cc
in_taken (suc n) (z ∷ xs) zero x low at = at
in_taken (suc n) (z ∷ xs) (suc i) x low at = in_taken n xs i x (omega arith) at

-- ---- the jobs

pub jobs_so : {P : Type 0} (workers bound : ℕ) (names : List (List ℕ)) (job_runs : List (JobRun (Unit {0}))) (peers front rest : List P) → AreWorkers workers bound names job_runs → peers ≡ front ++ rest → length job_runs ≡ length front
    → AreJobs workers bound names peers (map (λ r. r.job) (all_owning job_runs front))
jobs_so {P} workers bound names job_runs peers front rest w peers_are count = record {
  count = length-map (all_owning job_runs front) (λ (r : JobRun P). r.job) ∙ count_owning job_runs front count ∙ w.count;
  each = each;
}
  where
    each : (i : ℕ) (job : Job P) → slice_get (map (λ (r : JobRun P). r.job) (all_owning job_runs front)) i ≡ Some job → (peer : P) × (slice_get peers i ≡ Some peer) × (job ≡ worker_job bound (share_of workers i names) peer)
    each i job at =
        let u = unmapped (λ (r : JobRun P). r.job) (all_owning job_runs front) i job at in
        let o = owned_at job_runs front i u.0 u.1 in
        let is = w.each i o.job_run o.job_run_at in (
          o.peer,
          ap (λ (ps : List P). slice_get ps i) peers_are ∙ in_front front rest i o.peer o.peer_at,
          sym u.2 ∙ sym (ap (λ (r : JobRun P). r.job) o.is) ∙ ap (λ (r : JobRun (Unit {0})). (owning r o.peer).job) is,
        )

-- ---- the answers

abbrev pub Answer : Type 0
Answer = Result Outcome SharedError

abbrev some : Answer → Option Answer
some a = Some a

abbrev failed : SharedError → Answer
failed e = Err e

abbrev told_in : JobRun (Unit {0}) → Option Answer
told_in r = answer_in r

-- the answers of workers that have some
pub record AreAnswers (job_runs : List (JobRun (Unit {0}))) : Type 0 where
  pub answers : List Answer
  pub are : map Some answers ≡ map answer_in job_runs

answer_of : (o : Option (Receipt × Answer)) → IsSome o → (a : Answer) × (some a ≡ option_map (λ x. x.1) o)
answer_of (Some x) has = (x.1, refl)
answer_of None has = absurd cc

pub told_answers : (job_runs : List (JobRun (Unit {0}))) → ((i : ℕ) (job_run : JobRun (Unit {0})) → slice_get job_runs i ≡ Some job_run → IsSome job_run.answer) → AreAnswers job_runs
told_answers [] all = record { answers = []; are = refl }
told_answers (r ∷ job_runs) all =
    let rest = told_answers job_runs (λ i job_run at. all (suc i) job_run at) in
    let a = answer_of r.answer (all 0 r refl) in
    record { answers = a.0 ∷ rest.answers; are = ap (λ (x : Option Answer). x ∷ map some rest.answers) a.1 ∙ ap (λ (l : List (Option Answer)). told_in r ∷ l) rest.are }

answered_at : (job_runs : List (JobRun (Unit {0}))) (h : AreAnswers job_runs) (i : ℕ) (answer : Answer) → slice_get h.answers i ≡ Some answer → (job_run : JobRun (Unit {0})) × (slice_get job_runs i ≡ Some job_run) × (told_in job_run ≡ Some answer)
answered_at job_runs h i answer at = unmapped told_in job_runs i (Some answer) (ap (λ (l : List (Option Answer)). slice_get l i) (sym h.are) ∙ mapped_at some h.answers i answer at)

pub none_refused : (job_runs : List (JobRun (Unit {0}))) (h : AreAnswers job_runs) → AreUnrefused job_runs → (i : ℕ) (answer : Answer) → slice_get h.answers i ≡ Some answer → IsOk answer
none_refused job_runs h all i answer at = let x = answered_at job_runs h i answer at in subst (λ (o : Option Answer). IsUnrefused o) x.2 (all i x.0 x.1)

pub before_refused : (job_runs : List (JobRun (Unit {0}))) (h : AreAnswers job_runs) (index : ℕ) → AreUnrefused (take index job_runs) → (i : ℕ) (answer : Answer) → i < index → slice_get h.answers i ≡ Some answer → IsOk answer
before_refused job_runs h index all i answer low at =
    let x = answered_at job_runs h i answer at in
    subst (λ (o : Option Answer). IsUnrefused o) x.2 (all i x.0 (in_taken index job_runs i x.0 low x.1))

pub first_refused : (job_runs : List (JobRun (Unit {0}))) (h : AreAnswers job_runs) (index : ℕ) (job_run : JobRun (Unit {0})) (cause : SharedError) → slice_get job_runs index ≡ Some job_run → answer_in job_run ≡ Some (Err cause) → slice_get h.answers index ≡ Some (Err cause)
first_refused job_runs h index job_run cause at refused =
    let u = unmapped some h.answers index (Some (Err cause)) (ap (λ (l : List (Option Answer)). slice_get l index) h.are ∙ mapped_at told_in job_runs index job_run at ∙ ap (λ (o : Option Answer). Some o) refused) in
    u.1 ∙ u.2

-- ---- all together

module _ {P : Type 0} (g : Given P) (names : List (List ℕ)) (listed : HasListed g.asking names) (job_runs job_runs_now : List (JobRun (Unit {0}))) (front rest front_now : List P) (repo : RepositoryValue) (journal : List Entry)
    (w : AreWorkers g.workers g.asking.bound names job_runs) (peers_are : g.peers ≡ front ++ rest) (peers_now_are : g.peers_now ≡ front_now ++ rest) (count : length job_runs ≡ length front) (count_now : length front_now ≡ length front) (still : length job_runs_now ≡ length job_runs)
    (kept : IsKept (record { opening = empty_mirror g.kind g.committer; repository = repo; journal = journal })) (numbered : All (λ e. pass_of e < 18446744073709551615) journal)
    (have : HaveRaced (race_of g) journal (map (λ r. r.job) (all_owning job_runs front)) (all_owning job_runs_now front_now)) where
  abbrev jobs : List (Job P)
  jobs = map (λ r. r.job) (all_owning job_runs front)

  number : length jobs ≡ length front
  number = length-map (all_owning job_runs front) (λ (r : JobRun P). r.job) ∙ count_owning job_runs front count ∙ count

  same_now : length job_runs_now ≡ length front_now
  same_now = still ∙ count ∙ sym count_now

  has_answer : (i : ℕ) (job_run : JobRun (Unit {0})) → slice_get job_runs_now i ≡ Some job_run → IsSome job_run.answer
  has_answer i job_run at =
      let t = owning_there job_runs_now front_now i job_run same_now at in
      all_answered (race_of g) journal jobs (all_owning job_runs_now front_now) have i (owning job_run t.0) t.2

  pub the_answers : AreAnswers job_runs_now
  the_answers = told_answers job_runs_now has_answer

  peers_there : take (length jobs) g.peers_now ≡ map (λ r. r.job.peer) (all_owning job_runs_now front_now)
  peers_there = ap (take (length jobs)) peers_now_are ∙ front_is (length jobs) front_now rest (number ∙ sym count_now) ∙ sym (peers_owning job_runs_now front_now same_now)

  pub fetched_so : HaveFetched g names repo journal the_answers.answers
  fetched_so = record {
    jobs = jobs;
    jobs_are = jobs_so g.workers g.asking.bound names job_runs g.peers front rest w peers_are count;
    raced = record {
      kept = kept;
      jobs_done = told_so (race_of g) journal jobs (all_owning job_runs_now front_now) the_answers.answers (take (length jobs) g.peers_now) have (the_answers.are ∙ sym (told_owning job_runs_now front_now same_now)) peers_there numbered;
    };
    others = ap (drop (length jobs)) peers_now_are ∙ behind_front (length jobs) front_now rest (number ∙ sym count_now) ∙ sym (ap (drop (length jobs)) peers_are ∙ behind_front (length jobs) front rest number);
  }

  own : AreOwnNames names
  own = listed_own g.asking names listed

  absent : (name : List ℕ) → (Contains names name → ⊥) → finmap.get repo.state.refs.names name ≡ None
  absent name none =
      let f = fetched_so in
      none_elsewhere (race_of g) g.workers g.asking.bound names own g.peers f.jobs f.jobs_are journal the_answers.answers (take (length f.jobs) g.peers_now) f.raced.jobs_done repo kept refl name none

  untouched : (index : ℕ) (cause : SharedError) → slice_get the_answers.answers index ≡ Some (Err cause) → (name : List ℕ) (found : Option Target) → cause ≢ shared.EditReferences name found
  untouched index cause at name found is =
      let f = fetched_so in
      never_edits (race_of g) g.workers g.asking.bound names own g.peers f.jobs f.jobs_are journal the_answers.answers (take (length f.jobs) g.peers_now) f.raced.jobs_done index name found
      (at ∙ ap (λ (e : SharedError). Some (failed e)) is)

  pub mirrored_so : AreUnrefused job_runs_now → HasMirrored g repo journal
  mirrored_so all = record { names = names; listed = listed; answers = the_answers.answers; fetched = fetched_so; done = none_refused job_runs_now the_answers all; within = absent }

  refused_so : (index : ℕ) (job_run : JobRun (Unit {0})) (cause : SharedError) → slice_get job_runs_now index ≡ Some job_run → answer_in job_run ≡ Some (Err cause) → AreUnrefused (take index job_runs_now) → IsWorkerRefused g index cause
  refused_so index job_run cause at refused before = record {
    names = names;
    listed = listed;
    repo = repo;
    journal = journal;
    answers = the_answers.answers;
    fetched = fetched_so;
    first = record { refused = first_refused job_runs_now the_answers index job_run cause at refused; before = before_refused job_runs_now the_answers index before };
    untouched = untouched index cause (first_refused job_runs_now the_answers index job_run cause at refused);
  }

  pub unmirrored_so : IsFew g.workers → (e : MirrorError) → TellsFirst job_runs_now e → IsUnmirrored g e
  unmirrored_so few e h =
      let w = refused_so h.index h.job_run h.refused.cause h.at h.refused.refused h.before in
      ⊎_elim
      (λ (memory : e ≡ errors.NoMemory). subst (λ (x : MirrorError). IsUnmirrored g x) (sym memory) few)
      (λ (worker : (e ≡ errors.Worker h.index h.refused.cause) × (h.refused.cause ≢ shared.NoMemory)). subst (λ (x : MirrorError). IsUnmirrored g x) (sym worker.0) (few, w, worker.1))
      h.refused.told

-- ---- as the code has it

module _ {P : Type 0} (g : Given P) (names : List (List ℕ)) (listed : HasListed g.asking names) (job_runs news told_job_runs : List (JobRun (Unit {0}))) (front rest front_now : List P) (opening repo : RepositoryValue) (journal told_journal : List Entry)
    (w : AreWorkers g.workers g.asking.bound names job_runs) (peers_are : g.peers ≡ front ++ rest) (peers_now_are : g.peers_now ≡ front_now ++ rest) (count : length job_runs ≡ length front) (count_now : length front_now ≡ length front) (still : length news ≡ length job_runs)
    (opening_is : opening ≡ empty_mirror g.kind g.committer) (kept : IsKept (record { opening = opening; repository = repo; journal = journal })) (numbered : All (λ e. pass_of e < 18446744073709551615) journal)
    (have : HaveRaced (record { answers = g.asking.answers; told = g.asking.told; faults = g.asking.faults; trees = []; opening = opening }) journal (map (λ r. r.job) (all_owning job_runs front)) (all_owning news front_now))
    (told_is : told_job_runs ≡ news) (journal_is : told_journal ≡ journal) (few : IsFew g.workers) where
  kept_so : IsKept (record { opening = empty_mirror g.kind g.committer; repository = repo; journal = journal })
  kept_so = subst (λ (o : RepositoryValue). IsKept (record { opening = o; repository = repo; journal = journal })) opening_is kept

  have_so : HaveRaced (race_of g) journal (map (λ r. r.job) (all_owning job_runs front)) (all_owning news front_now)
  have_so = subst (λ (o : RepositoryValue). HaveRaced (record { answers = g.asking.answers; told = g.asking.told; faults = g.asking.faults; trees = []; opening = o }) journal (map (λ r. r.job) (all_owning job_runs front)) (all_owning news front_now)) opening_is have

  pub mirrored_told : (result : Result Mirrored MirrorError) → IfOk result (λ m. (m.repo ≡ repo) × (m.journal ≡ told_journal)) → OnOk result (AreUnrefused told_job_runs) → IfOk result (λ m. HasMirrored g m.repo m.journal)
  mirrored_told (Err e) mirror unrefused = tt
  mirrored_told (Ok m) mirror unrefused =
      let all : AreUnrefused news = subst AreUnrefused told_is unrefused in
      let made : HasMirrored g repo journal = mirrored_so g names listed job_runs news front rest front_now repo journal w peers_are peers_now_are count count_now still kept_so numbered have_so all in
      subst (λ (x : RepositoryValue × List Entry). HasMirrored g x.0 x.1) (λ i. (sym mirror.0 i, sym (mirror.1 ∙ journal_is) i)) made

  pub refused_told : (result : Result Mirrored MirrorError) → IfErr result (λ e. TellsFirst told_job_runs e) → IfErr result (λ e. IsUnmirrored g e)
  refused_told (Ok m) refused = tt
  refused_told (Err e) refused =
      unmirrored_so g names listed job_runs news front rest front_now repo journal w peers_are peers_now_are count count_now still kept_so numbered have_so few e (subst (λ (rs : List (JobRun (Unit {0}))). TellsFirst rs e) told_is refused)
