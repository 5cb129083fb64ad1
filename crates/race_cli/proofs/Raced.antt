-- The race of a scene, told.
use Rattle.std.proofs.Common.{◌≡◌, ℕ, suc, ◌≤◌, false, List, [], ◌∷◌, ◌++◌, length, map, Option, Some, None, Result, Ok, Err, refl, sym, ap, ◌∙◌, subst, arith}
use Rattle.std.specs.Prelude.{MatchOption, IsOkUnless, slice_get}
use Rattle.std.proofs.lemmas.List.{length-map}
use Rattle.fetch_base.specs.Calls.{faults_of}
use Rattle.fetch_store.specs.Missing.{unclosed}
use Rattle.fetch_store.specs.declared.missing.Missing.{Missing}
use Rattle.fetch_update.specs.declared.worktrees.Worktree.{Worktree}
use Rattle.fetch_wire.specs.Scripts.{Script, talk_of}
use Rattle.fetch_remote.specs.RepositoryValues.{RepositoryValue}
use Rattle.fetch_journal.specs.Machine.{held}
use Rattle.fetch_journal.specs.Replays.{outline}
use Rattle.fetch_journal.specs.declared.entry.Entry.{Entry}
use Rattle.fetch_journal.specs.declared.error.SharedError.{SharedError}
use Rattle.fetch_journal.specs.declared.error.SharedError.TheVariants as errors
use Rattle.fetch_race.specs.Racing.{Race, IsRaced}
use Rattle.fetch_race.specs.declared.job.Job.{Job}
use Rattle.fetch_race.specs.declared.job.Raced.{Raced}
use Rattle.race_cli.specs.Jobs.{AreFew}
use Rattle.race_cli.specs.RaceReports.{Answer, IsRaceReport, IsRefusedReport}
use Rattle.race_cli.specs.RaceRun.{IsSetUp, AreSetUp, race_in, IsTold, IsToldUnless, IsRaceOf}
use Rattle.race_cli.specs.RaceCases.{job_in, opening_of}
use Rattle.race_cli.specs.declared.scene.RaceScene.{RaceScene}
use Rattle.race_cli.specs.declared.race_case.JobCase.{JobCase}
use Rattle.race_cli.proofs.Told.{told}

-- a job more is set up
pub one_set_up : (job_cases : List JobCase) (jobs : List (Job Script)) (opened_case : JobCase) (job : Job Script) → AreSetUp job_cases jobs → IsSetUp opened_case job → AreSetUp (job_cases ++ opened_case ∷ []) (jobs ++ job ∷ [])
one_set_up [] [] opened_case job all one = (one, tt)
one_set_up [] (j ∷ jobs) opened_case job all one = absurd all
one_set_up (s ∷ job_cases) [] opened_case job all one = absurd all
one_set_up (s ∷ job_cases) (j ∷ jobs) opened_case job all one = (all.0, one_set_up job_cases jobs opened_case job all.1 one)

count_set_up : (job_cases : List JobCase) (jobs : List (Job Script)) → AreSetUp job_cases jobs → length jobs ≡ length job_cases
count_set_up [] [] all = refl
count_set_up [] (j ∷ jobs) all = absurd all
count_set_up (s ∷ job_cases) [] all = absurd all
count_set_up (s ∷ job_cases) (j ∷ jobs) all = ap suc (count_set_up job_cases jobs all.1)

-- as many jobs are set up as the scene has
pub few_set_up : (scene : RaceScene) (job_cases : List JobCase) (jobs : List (Job Script)) → AreFew scene.jobs → job_cases ≡ map job_in scene.jobs → AreSetUp job_cases jobs → (1 ≤ length jobs) × (length jobs ≤ 8)
few_set_up scene job_cases jobs few are all =
    let count : length jobs ≡ length scene.jobs = count_set_up job_cases jobs all ∙ ap length are ∙ length-map scene.jobs job_in in
    (omega (arith, few.0, count), omega (arith, few.1, count))

-- a repository of this state and this setup
pub repository_is : (repo opening : RepositoryValue) → repo.state ≡ opening.state → repo.setup ≡ opening.setup → repo ≡ opening
repository_is repo opening state setup = λ i. record { state = state i; setup = setup i }

-- the same race, by what a set up repository is
abbrev race_over : List Worktree → RepositoryValue → Race Script
race_over trees repo = record { answers = false; told = λ p. Some (talk_of p); faults = λ p. faults_of p.calls p.failed; trees = trees; opening = repo }

-- a race that was run had a closed repository
closed_then : (o : Option Missing) (raced : Raced Script) (new : Result (Raced Script) SharedError) → new ≡ Ok raced → MatchOption o (IsOkUnless new errors.NoMemory) (λ link. new ≡ Err (errors.NotClosed link)) → o ≡ None
closed_then None raced new is h = refl
closed_then (Some link) raced new is h = absurd (cc (is, h))

unless_none : (o : Option Missing) (scene : RaceScene) (status : ℕ) (text : List ℕ) → o ≡ None → IsTold scene status text → IsToldUnless o scene status text
unless_none None scene status text is h = h
unless_none (Some link) scene status text is h = absurd (cc (is))

module _ (scene : RaceScene) (repo : RepositoryValue) (trees : List Worktree) (repo_is : repo ≡ opening_of scene) (trees_are : trees ≡ scene.local.worktrees) where
  pub raced_told : (jobs : List (Job Script)) (raced : Raced Script) (new : Result (Raced Script) SharedError) → AreSetUp (map job_in scene.jobs) jobs → IsRaced (race_over trees repo) jobs raced → new ≡ Ok raced
      → MatchOption (slice_get (unclosed (held repo)) 0) (IsOkUnless new errors.NoMemory) (λ link. new ≡ Err (errors.NotClosed link))
      → (journal : List Entry) (answers : List Answer) → journal ≡ raced.journal → answers ≡ raced.answers → (status : ℕ) (text : List ℕ) → IsRaceReport journal (outline raced.repo) answers status text → IsRaceOf scene status text
  raced_told jobs raced new set_up ran is closed journal answers journal_is answers_are status text given =
      let report : IsRaceReport raced.journal (outline raced.repo) raced.answers status text = subst (λ (x : List Entry × List Answer). IsRaceReport x.0 (outline raced.repo) x.1 status text) (λ i. (journal_is i, answers_are i)) given in
      let none : slice_get (unclosed (held (opening_of scene))) 0 ≡ None = ap (λ (r : RepositoryValue). slice_get (unclosed (held r)) 0) (sym repo_is) ∙ closed_then (slice_get (unclosed (held repo)) 0) raced new is closed in
      let here : IsRaced (race_in scene) jobs raced = subst (λ (x : List Worktree × RepositoryValue). IsRaced (race_over x.0 x.1) jobs raced) (λ i. (trees_are i, repo_is i)) ran in
      record {
        is = unless_none (slice_get (unclosed (held (opening_of scene))) 0) scene status text none (record {
          jobs = jobs;
          set_up = set_up;
          raced = raced;
          ran = here;
          report = report;
          replayed = told scene raced.journal raced.repo raced.answers status text here.kept.state.told report;
        });
      }

  told_by : (o : Option Missing) (e : SharedError) (new : Result (Raced Script) SharedError) → new ≡ Err e → MatchOption o (IsOkUnless new errors.NoMemory) (λ link. new ≡ Err (errors.NotClosed link))
      → (status : ℕ) (text : List ℕ) → IsRefusedReport e status text → IsToldUnless o scene status text
  told_by None e new is h status text report = absurd (report.known (memory new is h))
    where
      memory : (new : Result (Raced Script) SharedError) → new ≡ Err e → IsOkUnless new errors.NoMemory → e ≡ errors.NoMemory
      memory (Ok raced) is h = absurd (cc (is))
      memory (Err other) is h = cc (is, h)
  told_by (Some link) e new is h status text report =
      let same : e ≡ errors.NotClosed link = cc (is, h) in
      record { report = subst (λ (x : SharedError). IsRefusedReport x status text) same report }

  pub refused_told : (e : SharedError) (new : Result (Raced Script) SharedError) → new ≡ Err e → MatchOption (slice_get (unclosed (held repo)) 0) (IsOkUnless new errors.NoMemory) (λ link. new ≡ Err (errors.NotClosed link))
      → (status : ℕ) (text : List ℕ) → IsRefusedReport e status text → IsRaceOf scene status text
  refused_told e new is closed status text report =
      record { is = subst (λ (r : RepositoryValue). IsToldUnless (slice_get (unclosed (held r)) 0) scene status text) repo_is (told_by (slice_get (unclosed (held repo)) 0) e new is closed status text report) }
