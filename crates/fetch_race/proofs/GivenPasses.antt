-- Jobs that get passes.
use Rattle.std.proofs.Common.{◌≡◌, ◌≢◌, ℕ, ◌+◌, ◌<◌, List, [], length, get_or, map, set, Some, Result, Ok, Err, sym, ap, ◌∙◌, subst, ⊎_elim, arith}
use Rattle.std.specs.Prelude.{slice_get, IfOk, IfSome, Option, All}
use Rattle.std.proofs.lemmas.List.{length-map}
use Rattle.std.proofs.lemmas.Option.{slice_get-get_or}
use Rattle.fetch_remote.specs.RepositoryValues.{RepositoryValue}
use Rattle.fetch_shared.specs.Numbers.{span, Holds}
use Rattle.fetch_shared.specs.Passes.{Holder, Which}
use Rattle.fetch_race.specs.declared.job.Job.{Job}
use Rattle.fetch_race.specs.declared.job.JobRun.{JobRun}
use Rattle.fetch_race.specs.Passes.{IsRest, HasPass, HavePasses}
use Rattle.fetch_race.proofs.Rows.{set_cases, within}

-- the jobs below a number have passes
abbrev pub HavePassesBelow : {P : Type 0} → Which → ℕ → List (JobRun P) → Type 0
HavePassesBelow {P} shared n job_runs = (k : ℕ) (job_run : JobRun P) → k < n → slice_get job_runs k ≡ Some job_run → HasPass shared k job_run

pub none_below : {P : Type 0} (shared : Which) (job_runs : List (JobRun P)) → HavePassesBelow shared 0 job_runs
none_below shared job_runs k job_run low at = absurd (omega arith)

pub one_below : {P : Type 0} (shared : Which) (job_runs : List (JobRun P)) (i : ℕ) (y : JobRun P) → HavePassesBelow shared i job_runs → HasPass shared i y → HavePassesBelow shared (i + 1) (set job_runs i y)
one_below {P} shared job_runs i y h own k job_run low at =
    ⊎_elim (λ (new : (k ≡ i) × (job_run ≡ y)). here new.0 new.1) (λ (old : (k ≢ i) × (slice_get job_runs k ≡ Some job_run)). h k job_run (below old.0) old.1) (set_cases job_runs i y k job_run at)
  where
    here : k ≡ i → job_run ≡ y → HasPass shared k job_run
    here same it = subst (λ (x : ℕ × JobRun P). HasPass shared x.0 x.1) (λ j. (sym same j, sym it j)) own

    below : k ≢ i → k < i
    below other = omega (arith, other)

pub all_have_passes : {P : Type 0} (shared : Which) (job_runs : List (JobRun P)) (jobs : List (Job P)) (n : ℕ) → n ≡ length job_runs → map (λ r. r.job) job_runs ≡ jobs → HavePassesBelow shared n job_runs → HavePasses shared jobs job_runs
all_have_passes shared job_runs jobs n is jobs_are h = record { jobs_are = jobs_are; each = λ i job_run at. h i job_run (subst (λ (m : ℕ). i < m) (sym is) (within job_runs i job_run at)) at }

pub count_passes : {P : Type 0} (shared : Which) (jobs : List (Job P)) (job_runs : List (JobRun P)) → HavePasses shared jobs job_runs → length job_runs ≡ length jobs
count_passes {P} shared jobs job_runs h = sym (length-map job_runs (λ (r : JobRun P). r.job)) ∙ ap length h.jobs_are

-- a rest by another name of its number
pub rest_at : (shared : Which) (n m : ℕ) (pass : Holder) → n ≡ m → IsRest shared n pass → IsRest shared m pass
rest_at shared n m pass same = subst (λ (k : ℕ). IsRest shared k pass) same

-- the passes of jobs with passes are of one shared repository
pub all_shared : {P : Type 0} (shared : Which) (jobs : List (Job P)) (job_runs : List (JobRun P)) → HavePasses shared jobs job_runs → All (λ r. IfSome r.pass (λ p. p.shared ≡ shared)) job_runs
all_shared {P} shared jobs job_runs h k d low =
    let s = h.each k (get_or job_runs k d) (slice_get-get_or job_runs k d low) in
    subst (λ (o : Option Holder). IfSome o (λ p. p.shared ≡ shared)) (sym s.pass_is) s.own.shared_is

-- the pass of a repository that was just shared has every number
pub first_rest : {E : Type 0} (opening : RepositoryValue) (result : Result (Which × Holder) E) → IfOk result (λ r. (r.1.shared ≡ r.0) × (r.0.opening ≡ opening)) → IfOk result (λ r. (r.1.number ≡ 0) × (r.1.unused ≡ span 1 18446744073709551615))
    → IfOk result (λ r. (n : ℕ) → n < 18446744073709551615 → Holds r.1.held n) → IfOk result (λ r. r.1.front ≡ []) → IfOk result (λ r. IsRest r.0 0 r.1)
first_rest opening (Ok r) shared numbers all front = record { shared_is = shared.0; number_is = numbers.0; unused_is = numbers.1; front_is = front; holds = λ n low top. all n top }
first_rest opening (Err e) shared numbers all front = tt

-- it opened as what was handed in
pub first_opening : {E : Type 0} (opening : RepositoryValue) (result : Result (Which × Holder) E) → IfOk result (λ r. (r.1.shared ≡ r.0) × (r.0.opening ≡ opening)) → IfOk result (λ r. r.0.opening ≡ opening)
first_opening opening (Ok r) shared = shared.1
first_opening opening (Err e) shared = tt
