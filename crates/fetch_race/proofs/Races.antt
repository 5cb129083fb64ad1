-- Races: jobs that sat, ran and arrived.
use Rattle.std.proofs.Common.{◌≡◌, ℕ, ◌<◌, ◌≤◌, All, List, length, map, Option, Some, Result, sym, ap, ◌∙◌, subst, ⊎_elim}
use Rattle.std.specs.Prelude.{slice_get, slice_index_or, is_some, IfSome, IsSome}
use Rattle.std.specs.Option.{option_map}
use Rattle.std.proofs.lemmas.Bool.{cases_lt}
use Rattle.std.proofs.lemmas.List.{length-map}
use Rattle.std.proofs.lemmas.Option.{slice_get-get_or, slice_get_within, get_or_from_slice_get}
use Rattle.fetch_remote.specs.RepositoryValues.{RepositoryValue}
use Rattle.fetch_remote.specs.declared.fetching.outcome.Outcome.{Outcome}
use Rattle.fetch_journal.specs.declared.entry.Entry.{Entry}
use Rattle.fetch_journal.specs.declared.error.SharedError.{SharedError}
use Rattle.fetch_shared.specs.declared.receipt.Receipt.{Receipt}
use Rattle.fetch_shared.specs.declared.view.Span.{Span}
use Rattle.fetch_journal.specs.Journals.{pass_of}
use Rattle.fetch_shared.specs.Numbers.{Holds}
use Rattle.fetch_shared.specs.Passes.{Holder, Which}
use Rattle.fetch_journal.specs.Shared.{IsKept}
use Rattle.fetch_race.specs.declared.job.Job.{Job}
use Rattle.fetch_race.specs.declared.job.Raced.{Raced}
use Rattle.fetch_race.specs.declared.job.JobRun.{JobRun}
use Rattle.fetch_race.specs.Racing.{Race, IsDone, IsRun, HasRaced, AreRaced, IsRaced}
use Rattle.fetch_race.specs.Passes.{HavePasses, IsOver, AreOver, AreGathered, HasAnswer, HaveRaced, answer_in}
use Rattle.fetch_race.proofs.Arrived.{none_above}
use Rattle.fetch_race.proofs.Rows.{same, unmapped, mapped_at, mapped_same, there}
use Rattle.fetch_race.proofs.GivenPasses.{count_passes}

module _ {P : Type 0} (race : Race P) (which : Which) (opened : which.opening ≡ race.opening) (jobs : List (Job P)) (olds news : List (JobRun P)) (count : length news ≡ length olds) (given_passes : HavePasses which jobs olds)
    (ran : (i : ℕ) (d : JobRun P) → i < length olds → IfSome (slice_index_or olds i d).pass (λ pass. IsRun race pass (slice_index_or olds i d) (slice_index_or news i d))) where
  run_at : (i : ℕ) (old : JobRun P) (at : slice_get olds i ≡ Some old) → IsRun race (given_passes.each i old at).pass old (slice_index_or news i old)
  run_at i old at =
      let r = ran i old (slice_get_within olds i old at) in
      let here = subst (λ (x : JobRun P). IfSome x.pass (λ pass. IsRun race pass x (slice_index_or news i old))) (get_or_from_slice_get olds i old old at) r in
      subst (λ (o : Option Holder). IfSome o (λ pass. IsRun race pass old (slice_index_or news i old))) (given_passes.each i old at).pass_is here

  new_at : (i : ℕ) (old : JobRun P) → slice_get olds i ≡ Some old → slice_get news i ≡ Some (slice_index_or news i old)
  new_at i old at = slice_get-get_or news i old (subst (λ (n : ℕ). i < n) (sym count) (slice_get_within olds i old at))

  pub all_over : AreOver which news
  all_over i new at =
      let o = there olds i (subst (λ (n : ℕ). i < n) count (slice_get_within news i new at)) in
      let s = given_passes.each i o.0 o.1 in
      let r = run_at i o.0 o.1 in
      subst (λ (x : JobRun P). IsOver which i x) (same (slice_get news i) (slice_index_or news i o.0) new (new_at i o.0 o.1) at) (record {
        pass = r.after;
        receipt = r.receipt;
        answer = r.answer;
        pass_is = r.pass;
        answer_is = r.answer_is;
        shared_is = r.done.back.shared ∙ s.own.shared_is;
        holds = subst (λ (held : List Span). Holds held i) (sym r.done.back.held) s.own.holds;
      })

  pub all_raced : (left : List (JobRun P)) (pass : Holder) → map (λ r. r.answer) left ≡ map (λ r. r.answer) news → map (λ r. r.job) left ≡ map (λ r. r.job) news → AreGathered news (length news) pass → HaveRaced race pass.front jobs left
  all_raced left pass answers_are jobs_are gathered = record {
    count = same_count ∙ number;
    each = each;
    others = λ n low top. gathered.none n (subst (λ (m : ℕ). m ≤ n) (sym number) low) top;
  }
    where
      number : length news ≡ length jobs
      number = count ∙ count_passes which jobs olds given_passes

      same_count : length left ≡ length news
      same_count = sym (length-map left (λ (r : JobRun P). r.job)) ∙ ap length jobs_are ∙ length-map news (λ (r : JobRun P). r.job)

      each : (i : ℕ) (job : Job P) (job_run : JobRun P) → slice_get jobs i ≡ Some job → slice_get left i ≡ Some job_run → HasAnswer race pass.front i job job_run
      each i job job_run job_at at =
          let o = unmapped (λ (r : JobRun P). r.job) olds i job (ap (λ (js : List (Job P)). slice_get js i) given_passes.jobs_are ∙ job_at) in
          let s = given_passes.each i o.0 o.1 in
          let r = run_at i o.0 o.1 in
          let new = slice_index_or news i o.0 in
          let place = new_at i o.0 o.1 in
          let t = gathered.taken i new r.after (slice_get_within news i new place) place r.pass in
          let answer_is : job_run.answer ≡ new.answer = mapped_same (λ (x : JobRun P). x.answer) left news i job_run new answers_are at place in
          let job_is : job_run.job ≡ new.job = mapped_same (λ (x : JobRun P). x.job) left news i job_run new jobs_are at place in
          record {
            receipt = r.receipt;
            answer = r.answer;
            answer_is = answer_is ∙ r.answer_is;
            raced = record {
              before = s.pass;
              after = r.after;
              receipt = r.receipt;
              fresh = record { opened = ap (λ (w : Which). w.opening) s.own.shared_is ∙ opened; number_is = s.own.number_is; front_is = s.own.front_is };
              done = subst (λ (x : Job P × P). IsDone race x.0 x.1 s.pass r.after r.receipt r.answer) (λ k. (o.2 k, (sym job_is k).peer)) r.done;
              seen = t.begins;
              entries = t.entries;
            };
          }

-- what a job came to, where its pass is known
pub run_by : {P : Type 0} (race : Race P) (old new : JobRun P) (pass : Holder) → old.pass ≡ Some pass → IsRun race pass old new → IfSome old.pass (λ p. IsRun race p old new)
run_by race old new pass is ran = subst (λ (o : Option Holder). IfSome o (λ p. IsRun race p old new)) (sym is) ran

-- each job has an answer
pub all_answered : {P : Type 0} (race : Race P) (journal : List Entry) (jobs : List (Job P)) (job_runs : List (JobRun P)) → HaveRaced race journal jobs job_runs → (i : ℕ) (job_run : JobRun P) → slice_get job_runs i ≡ Some job_run → IsSome job_run.answer
all_answered race journal jobs job_runs h i job_run at =
    let job = there jobs i (subst (λ (n : ℕ). i < n) h.count (slice_get_within job_runs i job_run at)) in
    ap is_some (h.each i job.0 job_run job.1 at).answer_is

-- so it is of the answers and the peers alone
pub told_so : {P : Type 0} (race : Race P) (journal : List Entry) (jobs : List (Job P)) (job_runs : List (JobRun P)) (answers : List (Result Outcome SharedError)) (peers : List P) → HaveRaced race journal jobs job_runs
    → map Some answers ≡ map answer_in job_runs → peers ≡ map (λ r. r.job.peer) job_runs → All (λ e. pass_of e < 18446744073709551615) journal → AreRaced race journal jobs answers peers
told_so {P} race journal jobs job_runs answers peers h answers_are peers_are numbered = record {
  answered = sym (length-map answers some) ∙ ap length answers_are ∙ length-map job_runs (told_of) ∙ h.count;
  given_back = ap length peers_are ∙ length-map job_runs (λ (r : JobRun P). r.job.peer) ∙ h.count;
  each = each;
  others = λ n low. ⊎_elim (λ (top : n < 18446744073709551615). h.others n low top) (λ (above : 18446744073709551615 ≤ n). none_above 18446744073709551615 n journal numbered above) (cases_lt n 18446744073709551615);
}
  where
    told_of : JobRun P → Option (Result Outcome SharedError)
    told_of x = answer_in x

    some : Result Outcome SharedError → Option (Result Outcome SharedError)
    some a = Some a

    each : (i : ℕ) (job : Job P) (answer : Result Outcome SharedError) (peer : P) → slice_get jobs i ≡ Some job → slice_get answers i ≡ Some answer → slice_get peers i ≡ Some peer → HasRaced race journal i job answer peer
    each i job answer peer job_at answer_at peer_at =
        let r = unmapped (λ (r : JobRun P). r.job.peer) job_runs i peer (ap (λ (ps : List P). slice_get ps i) (sym peers_are) ∙ peer_at) in
        let a = h.each i job r.0 job_at r.1 in
        let mapped : slice_get (map some answers) i ≡ Some (Some answer) = mapped_at some answers i answer answer_at in
        let x = unmapped (told_of) job_runs i (Some answer) (ap (λ (os : List (Option (Result Outcome SharedError))). slice_get os i) (sym answers_are) ∙ mapped) in
        let job_run_is : x.0 ≡ r.0 = same (slice_get job_runs i) x.0 r.0 x.1 r.1 in
        let told : answer_in r.0 ≡ Some answer = ap (told_of) (sym job_run_is) ∙ x.2 in
        let answer_is : a.answer ≡ answer = same (answer_in r.0) a.answer answer (ap (option_map (λ (b : Receipt × Result Outcome SharedError). b.1)) a.answer_is) told in
        subst (λ (y : Result Outcome SharedError × P). HasRaced race journal i job y.0 y.1) (λ k. (answer_is k, r.2 k)) a.raced

-- so a race is told
pub raced_so : {P : Type 0} (race : Race P) (jobs : List (Job P)) (job_runs : List (JobRun P)) (front : List Entry) (repo : RepositoryValue) (journal : List Entry) (r : Raced P)
    → IsKept (record { opening = race.opening; repository = repo; journal = journal }) → journal ≡ front → All (λ e. pass_of e < 18446744073709551615) journal → HaveRaced race front jobs job_runs
    → r.repo ≡ repo → r.journal ≡ journal → map Some r.answers ≡ map answer_in job_runs → r.peers ≡ map (λ r. r.job.peer) job_runs → IsRaced race jobs r
raced_so {P} race jobs job_runs front repo journal r kept whole numbered have repo_is journal_is answers peers = record {
  kept = subst (λ (x : RepositoryValue × List Entry). IsKept (record { opening = race.opening; repository = x.0; journal = x.1 })) (λ i. (sym repo_is i, sym journal_is i)) kept;
  jobs_done = told_so race r.journal jobs job_runs r.answers r.peers (subst (λ (j : List Entry). HaveRaced race j jobs job_runs) (sym (journal_is ∙ whole)) have) answers peers
      (subst (λ (j : List Entry). All (λ e. pass_of e < 18446744073709551615) j) (sym journal_is) numbered);
}
