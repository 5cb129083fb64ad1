-- The passes of a race: each job gets one, and one is made of all.
use Rattle.std.specs.Prelude.{◌≡◌, ◌⊎◌, ◌↔◌, ℕ, ◌+◌, ◌<◌, ◌≤◌, List, [], length, map, Option, Some, Result, slice_get}
use Rattle.std.specs.Option.{option_map}
use Rattle.fetch_remote.specs.declared.fetching.outcome.Outcome.{Outcome}
use Rattle.fetch_journal.specs.declared.entry.Entry.{Entry}
use Rattle.fetch_journal.specs.declared.error.SharedError.{SharedError}
use Rattle.fetch_shared.specs.declared.receipt.Receipt.{Receipt}
use Rattle.fetch_journal.specs.Journals.{Begins, entries_of}
use Rattle.fetch_shared.specs.Numbers.{span, Holds}
use Rattle.fetch_shared.specs.Passes.{Holder, Which}
use Rattle.fetch_race.specs.declared.job.Job.{Job}
use Rattle.fetch_race.specs.declared.job.JobRun.{JobRun}
use Rattle.fetch_race.specs.Racing.{Race, HasRaced}

-- The pass has this number and the ones after it, and has seen nothing.
pub record IsRest (shared : Which) (number : ℕ) (pass : Holder) : Type 0 where
  pub shared_is : pass.shared ≡ shared
  pub number_is : pass.number ≡ number
  pub unused_is : pass.unused ≡ span (number + 1) 18446744073709551615
  pub front_is : pass.front ≡ []
  pub holds : (n : ℕ) → number ≤ n → n < 18446744073709551615 → Holds pass.held n

-- The pass has this number, and has seen nothing.
pub record IsOwn (shared : Which) (number : ℕ) (pass : Holder) : Type 0 where
  pub shared_is : pass.shared ≡ shared
  pub number_is : pass.number ≡ number
  pub front_is : pass.front ≡ []
  pub holds : Holds pass.held number

-- The job has such a pass.
pub record HasPass {P : Type 0} (shared : Which) (number : ℕ) (job_run : JobRun P) : Type 0 where
  pub pass : Holder
  pub pass_is : job_run.pass ≡ Some pass
  pub own : IsOwn shared number pass

-- These jobs sit in their order, by passes with their places as numbers.
pub record HavePasses {P : Type 0} (shared : Which) (jobs : List (Job P)) (job_runs : List (JobRun P)) : Type 0 where
  pub jobs_are : map (λ r. r.job) job_runs ≡ jobs
  pub each : (i : ℕ) (job_run : JobRun P) → slice_get job_runs i ≡ Some job_run → HasPass shared i job_run

-- The job is done, and its pass, which holds this number, came back.
pub record IsOver {P : Type 0} (shared : Which) (number : ℕ) (job_run : JobRun P) : Type 0 where
  pub pass : Holder
  pub receipt : Receipt
  pub answer : Result Outcome SharedError
  pub pass_is : job_run.pass ≡ Some pass
  pub answer_is : job_run.answer ≡ Some (receipt, answer)
  pub shared_is : pass.shared ≡ shared
  pub holds : Holds pass.held number

-- so it is of each
abbrev pub AreOver : {P : Type 0} → Which → List (JobRun P) → Type 0
AreOver {P} shared job_runs = (i : ℕ) (job_run : JobRun P) → slice_get job_runs i ≡ Some job_run → IsOver shared i job_run

-- One pass for two: it holds what both held, and its front begins with both and has, of a number that one of them held, the
-- entries that this one has seen.
pub record IsJoined (left right pass : Holder) : Type 0 where
  pub shared_is : pass.shared ≡ left.shared
  pub held : (n : ℕ) → Holds pass.held n ↔ (Holds left.held n ⊎ Holds right.held n)
  pub begins : Begins left.front pass.front × Begins right.front pass.front
  pub left_entries : (n : ℕ) → Holds left.held n → entries_of n pass.front ≡ entries_of n left.front
  pub right_entries : (n : ℕ) → Holds right.held n → entries_of n pass.front ≡ entries_of n right.front

-- The pass has this number for another one, with all that the other one has seen of it.
pub record HasTaken (number : ℕ) (other pass : Holder) : Type 0 where
  pub holds : Holds pass.held number
  pub begins : Begins other.front pass.front
  pub entries : entries_of number pass.front ≡ entries_of number other.front

-- One pass for the jobs below this number, and for all numbers from the count of jobs on, which have no entry.
pub record AreGathered {P : Type 0} (job_runs : List (JobRun P)) (number : ℕ) (pass : Holder) : Type 0 where
  pub taken : (i : ℕ) (job_run : JobRun P) (other : Holder) → i < number → slice_get job_runs i ≡ Some job_run → job_run.pass ≡ Some other
      → HasTaken i other pass
  pub holds : (n : ℕ) → length job_runs ≤ n → n < 18446744073709551615 → Holds pass.held n
  pub none : (n : ℕ) → length job_runs ≤ n → n < 18446744073709551615 → entries_of n pass.front ≡ []

-- what became of a job, where it was done
abbrev pub answer_in : {P : Type 0} → JobRun P → Option (Result Outcome SharedError)
answer_in {P} job_run = option_map (λ a. a.1) job_run.answer

-- The job was done in a race with this journal.
pub record HasAnswer {P : Type 0} (race : Race P) (journal : List Entry) (number : ℕ) (job : Job P) (job_run : JobRun P) : Type 0 where
  pub receipt : Receipt
  pub answer : Result Outcome SharedError
  pub answer_is : job_run.answer ≡ Some (receipt, answer)
  pub raced : HasRaced race journal number job answer job_run.job.peer

-- Each job was done so, and no other number that a pass may hold has an entry.
pub record HaveRaced {P : Type 0} (race : Race P) (journal : List Entry) (jobs : List (Job P)) (job_runs : List (JobRun P)) : Type 0 where
  pub count : length job_runs ≡ length jobs
  pub each : (i : ℕ) (job : Job P) (job_run : JobRun P) → slice_get jobs i ≡ Some job → slice_get job_runs i ≡ Some job_run
      → HasAnswer race journal i job job_run
  pub others : (n : ℕ) → length jobs ≤ n → n < 18446744073709551615 → entries_of n journal ≡ []

-- The pass holds every number.
abbrev pub HoldsAll : Holder → Type 0
HoldsAll pass = (n : ℕ) → n < 18446744073709551615 → Holds pass.held n
