-- Jobs that are done side by side, each by a pass of its own, over one repository.
use Rattle.std.specs.Prelude.{◌≡◌, ℕ, ◌≤◌, Bool, true, false, ◌||◌, List, [], length, Option, Some, Result, Ok, Err, IfErr, slice_get}
use Rattle.std.specs.FinMap as map
use Rattle.fetch_base.specs.Faults.{Faults}
use Rattle.fetch_files.specs.Trees.{Tree}
use Rattle.fetch_update.specs.declared.worktrees.Worktree.{Worktree}
use Rattle.fetch_lines.specs.Talks.{Talk}
use Rattle.fetch_conversation.specs.Blame.{BlamesPeer, is_told}
use Rattle.fetch_remote.specs.Errors.{is_unkept, is_unlisted}
use Rattle.fetch_remote.specs.RepositoryValues.{RepositoryValue}
use Rattle.fetch_remote.specs.declared.fetching.fetch_error.FetchError.TheVariants as fetch
use Rattle.fetch_remote.specs.declared.fetching.outcome.Outcome.{Outcome}
use Rattle.fetch_journal.specs.declared.entry.Entry.{Entry}
use Rattle.fetch_journal.specs.declared.error.SharedError.{SharedError}
use Rattle.fetch_journal.specs.declared.error.SharedError.TheVariants as errors
use Rattle.fetch_shared.specs.declared.receipt.Receipt.{Receipt}
use Rattle.fetch_journal.specs.Errors.{is_of_peer, is_yes}
use Rattle.fetch_shared.specs.Fetching.{Call, IsSharedFetch, IsSharedRefused}
use Rattle.fetch_journal.specs.Journals.{Begins, entries_of}
use Rattle.fetch_shared.specs.Passes.{Holder, IsBack}
use Rattle.fetch_shared.specs.Receipts.{IsReceipt}
use Rattle.fetch_journal.specs.Shared.{IsKept}
use Rattle.fetch_shared.specs.Conversed.{Line, given_to}
use Rattle.fetch_shared.specs.Valid.{HasValidInput, is_free}
use Rattle.fetch_race.specs.declared.job.Job.{Job}
use Rattle.fetch_race.specs.declared.job.Raced.{Raced}
use Rattle.fetch_race.specs.declared.job.JobRun.{JobRun}

-- What the jobs of a race have in common: how their peers are seen, the list of work trees, and the repository that is
-- shared, as it was opened.
pub record Race (P : Type 0) : Type 0 where
  pub answers : Bool
  pub told : P → Option Talk
  pub faults : P → Faults
  pub trees : List Worktree
  pub opening : RepositoryValue

-- ---- one job

-- a fault of the files or of the work trees
abbrev pub is_of_files : SharedError → Bool
is_of_files (errors.Fetch (fetch.Receive e)) = is_unkept e || is_unlisted e
is_of_files e = false

-- What a fetch answered is what it did, or why it was refused.
abbrev pub IsAnswered : Line → Call → Receipt → Result Outcome SharedError → Type 0
IsAnswered line c receipt (Ok outcome) = IsSharedFetch line c receipt outcome
IsAnswered line c receipt (Err e) = IsSharedRefused line c receipt e

-- The job was done by this pass: the answer is that of a fetch over the shared repository, with files that begin with
-- nothing and with these work trees. The peer's fault is told only where its count rose, and neither a yes nor a fault of
-- the files or of the work trees is told. With valid input there is no refusal but out of memory, the peer's fault, or that
-- of an event by what others entered.
pub record IsDone {P : Type 0} (race : Race P) (job : Job P) (peer : P) (before after : Holder) (receipt : Receipt)
    (answer : Result Outcome SharedError) : Type 0 where
  pub left : Option Tree
  pub back : IsBack before after
  pub in_order : IsReceipt before after receipt
  pub answered : IsAnswered (record { answers = race.answers; old = race.told job.peer; new = race.told peer })
      (record {
        given = given_to job.remote job.options before;
        before = before;
        after = after;
        known = Some race.trees;
        files = Some map.empty;
        left = left;
      }) receipt answer
  pub blames : BlamesPeer (race.faults job.peer) (race.faults peer) (is_told is_of_peer answer)
  pub never : IfErr answer (λ e. (is_yes e ≡ false) × (is_of_files e ≡ false))
  pub complete : IfErr answer (λ e. HasValidInput (record { answers = race.answers; old = race.told job.peer; new = race.told peer })
      (record {
        given = given_to job.remote job.options before;
        before = before;
        after = after;
        known = Some race.trees;
        files = Some map.empty;
        left = left;
      }) receipt → is_free e ≡ true)

-- A job that has a pass was done by it: the rest of the job is as it was, and what became of it stands beside it, with the
-- pass as it came back.
pub record IsRun {P : Type 0} (race : Race P) (before : Holder) (old new : JobRun P) : Type 0 where
  pub after : Holder
  pub receipt : Receipt
  pub answer : Result Outcome SharedError
  pub pass : new.pass ≡ Some after
  pub answer_is : new.answer ≡ Some (receipt, answer)
  pub remote : new.job.remote ≡ old.job.remote
  pub options : new.job.options ≡ old.job.options
  pub done : IsDone race old.job new.job.peer before after receipt answer

-- ---- a race

-- a pass that has this number and has seen nothing, of the repository that was opened so
pub record IsFresh (opening : RepositoryValue) (number : ℕ) (pass : Holder) : Type 0 where
  pub opened : pass.shared.opening ≡ opening
  pub number_is : pass.number ≡ number
  pub front_is : pass.front ≡ []

-- A job with this number was done in a race with this journal: its pass has seen a beginning of the journal, with all
-- entries of the number.
pub record HasRaced {P : Type 0} (race : Race P) (journal : List Entry) (number : ℕ) (job : Job P) (answer : Result Outcome SharedError)
    (peer : P) : Type 0 where
  pub before : Holder
  pub after : Holder
  pub receipt : Receipt
  pub fresh : IsFresh race.opening number before
  pub done : IsDone race job peer before after receipt answer
  pub seen : Begins after.front journal
  pub entries : entries_of number journal ≡ entries_of number after.front

-- Each job was done, by a pass with its place as number, and its peer came back. No other number has an entry.
pub record AreRaced {P : Type 0} (race : Race P) (journal : List Entry) (jobs : List (Job P)) (answers : List (Result Outcome SharedError))
    (peers : List P) : Type 0 where
  pub answered : length answers ≡ length jobs
  pub given_back : length peers ≡ length jobs
  pub each : (i : ℕ) (job : Job P) (answer : Result Outcome SharedError) (peer : P) → slice_get jobs i ≡ Some job
      → slice_get answers i ≡ Some answer → slice_get peers i ≡ Some peer → HasRaced race journal i job answer peer
  pub others : (n : ℕ) → length jobs ≤ n → entries_of n journal ≡ []

-- A race that was run: its repository is what its journal leaves of the one that was opened, and the jobs were done.
pub record IsRaced {P : Type 0} (race : Race P) (jobs : List (Job P)) (raced : Raced P) : Type 0 where
  pub kept : IsKept (record { opening = race.opening; repository = raced.repo; journal = raced.journal })
  pub jobs_done : AreRaced race raced.journal jobs raced.answers raced.peers
