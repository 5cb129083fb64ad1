-- How a server is mirrored: its references are listed, and workers fetch them into one empty repository.
use Rattle.std.specs.Prelude.{◌≡◌, ◌≢◌, ◌⊎◌, ℕ, ◌≤◌, ◌<◌, min, Bool, false, List, [], ◌∷◌, length, take, drop, codes, Option, Some, None}
use Rattle.std.specs.Prelude.{Result, Err, IsOk, slice_get, ⊤}
use Rattle.std.specs.FinMap as finmap
use Rattle.std.specs.List.{Contains}
use Rattle.fetch_base.specs.Faults.{Faults}
use Rattle.fetch_base.specs.declared.id.Kind.{Kind}
use Rattle.fetch_refs.specs.declared.log.Signature.{Signature}
use Rattle.fetch_refs.specs.declared.target.Target.{Target}
use Rattle.fetch_specs.specs.Specs.{Spec}
use Rattle.fetch_specs.specs.declared.tags.Tags.TheVariants as tags
use Rattle.fetch_negotiate.specs.declared.algorithm.Shallow.TheVariants.{NoChange}
use Rattle.fetch_lines.specs.Talks.{Talk}
use Rattle.fetch_conversation.specs.Blame.{BlamesPeer}
use Rattle.fetch_conversation.specs.Conversation.{Breaks, Concludes}
use Rattle.fetch_conversation.specs.Errors.{is_free_listing, is_interrupted, is_transport}
use Rattle.fetch_conversation.specs.ListStage.{ListedValue, ls_refs_stage}
use Rattle.fetch_conversation.specs.declared.prepare.Error.TheVariants as prepare
use Rattle.fetch_conversation.specs.declared.ref_map.Error.{Error as ListError}
use Rattle.fetch_remote.specs.Remotes.{RemoteValue, nameless}
use Rattle.fetch_remote.specs.RepositoryValues.{RepositoryValue}
use Rattle.fetch_remote.specs.declared.fetching.options.FetchOptions.{FetchOptions}
use Rattle.fetch_remote.specs.declared.fetching.outcome.Outcome.{Outcome}
use Rattle.fetch_journal.specs.declared.entry.Entry.{Entry}
use Rattle.fetch_journal.specs.declared.error.SharedError.{SharedError}
use Rattle.fetch_race.specs.Racing.{IsRaced, Race}
use Rattle.fetch_race.specs.declared.job.Job.{Job}
use Rattle.fetch_race.specs.declared.job.JobRun.{JobRun}
use Rattle.fetch_race.specs.Passes.{answer_in}
use Rattle.fetch_journal.specs.declared.error.SharedError.TheVariants as shared
use Rattle.fetch_mirror.specs.declared.error.MirrorError.{MirrorError}
use Rattle.fetch_mirror.specs.declared.error.MirrorError.TheVariants as errors
use Rattle.fetch_mirror.specs.declared.options.MirrorOptions.{MirrorOptions}
use Rattle.fetch_mirror.specs.Opening.{empty_mirror}
use Rattle.fetch_mirror.specs.Naming.{inquiry_by, map_options, names_of}
use Rattle.fetch_mirror.specs.Shares.{share_of}

-- ---- the workers

-- where a worker fetches its share from: its server's own place, without tags
abbrev pub worker_remote : List Spec → RemoteValue
worker_remote specs = nameless (codes "." ∷ []) specs tags.None

-- how it fetches
abbrev pub worker_options : ℕ → FetchOptions
worker_options bound = record {
  map = map_options bound;
  dry_run = false;
  write_packed_refs_only = false;
  reflog_message = None;
  shallow = NoChange;
}

-- what it does
abbrev pub worker_job : {P : Type 0} → ℕ → List Spec → P → Job P
worker_job bound specs peer = record { remote = worker_remote specs; peer = peer; options = worker_options bound }

-- The jobs of the workers that have a share: worker `i` fetches share `i`, of the peer at that place.
pub record AreJobs {P : Type 0} (workers bound : ℕ) (names : List (List ℕ)) (peers : List P) (jobs : List (Job P)) : Type 0 where
  pub count : length jobs ≡ min workers (length names)
  pub each : (i : ℕ) (job : Job P) → slice_get jobs i ≡ Some job → (peer : P) × (slice_get peers i ≡ Some peer)
      × (job ≡ worker_job bound (share_of workers i names) peer)

-- a worker without a pass and a peer
abbrev pub worker : ℕ → List Spec → JobRun (Unit {0})
worker bound specs = record { job = worker_job bound specs tt; pass = None; answer = None }

-- The workers that have a share, none of which has fetched yet.
pub record AreWorkers (workers bound : ℕ) (names : List (List ℕ)) (job_runs : List (JobRun (Unit {0}))) : Type 0 where
  pub count : length job_runs ≡ min workers (length names)
  pub each : (i : ℕ) (job_run : JobRun (Unit {0})) → slice_get job_runs i ≡ Some job_run → job_run ≡ worker bound (share_of workers i names)

-- ---- a listing

-- A lister that is asked: how it is seen, before and after, and how many bytes a reply may have.
pub record Asking (P : Type 0) : Type 0 where
  pub answers : Bool
  pub told : P → Option Talk
  pub faults : P → Faults
  pub lister : P
  pub lister_now : P
  pub bound : ℕ

-- the same, of a lister that is seen so
abbrev pub asking_by : {P : Type 0} → Bool → (P → Option Talk) → (P → Faults) → P → P → ℕ → Asking P
asking_by answers told faults lister lister_now bound = record {
  answers = answers;
  told = told;
  faults = faults;
  lister = lister;
  lister_now = lister_now;
  bound = bound;
}

-- It told these names.
pub record HasListed {P : Type 0} (a : Asking P) (names : List (List ℕ)) : Type 0 where
  pub listed : ListedValue
  pub behind : List ℕ
  pub heard : Concludes a.answers a.bound (a.told a.lister) (a.told a.lister_now) []
      (ls_refs_stage a.bound (inquiry_by a.bound)) listed behind
  pub names_are : names ≡ names_of listed.ref_map.remote_refs

-- The references weren't listed: the peer's fault is told only where its count rose, and never a yes of an interrupt.
pub record IsUnlisted {P : Type 0} (a : Asking P) (e : ListError) : Type 0 where
  pub broke : Breaks is_free_listing is_interrupted a.answers a.bound (a.told a.lister) (a.told a.lister_now) []
      (ls_refs_stage a.bound (inquiry_by a.bound)) (prepare.RefMap e)
  pub blames : BlamesPeer (a.faults a.lister) (a.faults a.lister_now) (is_transport (prepare.RefMap e))
  pub never : is_interrupted (prepare.RefMap e) ≡ false

-- Why there are no names.
abbrev pub IsUnnamed : {P : Type 0} → Asking P → MirrorError → Type 0
IsUnnamed a (errors.List e) = IsUnlisted a e
IsUnnamed a errors.NoMemory = ⊤
IsUnnamed a e = ⊥

-- ---- a mirror

-- What is given: the lister, the peers before and after, the hash of the mirror, who commits, and how many workers there are.
pub record Given (P : Type 0) : Type 0 where
  pub asking : Asking P
  pub peers : List P
  pub peers_now : List P
  pub kind : Kind
  pub committer : Signature
  pub workers : ℕ

-- the same, of a mirror that is made by these options
abbrev pub given_for : {P : Type 0} → Asking P → List P → List P → Kind → MirrorOptions → Given P
given_for asking peers peers_now kind options = record {
  asking = asking;
  peers = peers;
  peers_now = peers_now;
  kind = kind;
  committer = options.committer;
  workers = options.workers;
}

-- what the workers have in common: no work trees, and the empty mirror
abbrev pub race_of : {P : Type 0} → Given P → Race P
race_of g = record {
  answers = g.asking.answers;
  told = g.asking.told;
  faults = g.asking.faults;
  trees = [];
  opening = empty_mirror g.kind g.committer;
}

-- The workers that have a share of these names did their jobs side by side, and this is what their journal leaves. The other
-- peers weren't asked.
pub record HaveFetched {P : Type 0} (g : Given P) (names : List (List ℕ)) (repo : RepositoryValue) (journal : List Entry)
    (answers : List (Result Outcome SharedError)) : Type 0 where
  pub jobs : List (Job P)
  pub jobs_are : AreJobs g.workers g.asking.bound names g.peers jobs
  pub raced : IsRaced (race_of g) jobs (record {
    repo = repo;
    journal = journal;
    answers = answers;
    peers = take (length jobs) g.peers_now;
  })
  pub others : drop (length jobs) g.peers_now ≡ drop (length jobs) g.peers

-- The references were listed and fetched, and no worker was refused.
pub record HasMirrored {P : Type 0} (g : Given P) (repo : RepositoryValue) (journal : List Entry) : Type 0 where
  pub names : List (List ℕ)
  pub listed : HasListed g.asking names
  pub answers : List (Result Outcome SharedError)
  pub fetched : HaveFetched g names repo journal answers
  pub done : (i : ℕ) (answer : Result Outcome SharedError) → slice_get answers i ≡ Some answer → IsOk answer
  -- No reference of another name is there.
  pub within : (name : List ℕ) → (Contains names name → ⊥) → finmap.get repo.state.refs.names name ≡ None

-- ---- a refusal

-- Of these answers this is the first refusal.
pub record IsFirstRefusal (answers : List (Result Outcome SharedError)) (index : ℕ) (e : SharedError) : Type 0 where
  -- This answer is the refusal.
  pub refused : slice_get answers index ≡ Some (Err e)
  -- No answer before it is a refusal.
  pub before : (i : ℕ) (answer : Result Outcome SharedError) → i < index → slice_get answers i ≡ Some answer → IsOk answer

-- This is the first worker that was refused, and why.
pub record IsWorkerRefused {P : Type 0} (g : Given P) (index : ℕ) (e : SharedError) : Type 0 where
  -- the names that the lister told
  pub names : List (List ℕ)
  -- The references were listed.
  pub listed : HasListed g.asking names
  -- the repository once all workers were done
  pub repo : RepositoryValue
  -- what the workers entered
  pub journal : List Entry
  -- what each worker was answered
  pub answers : List (Result Outcome SharedError)
  -- The workers did their jobs.
  pub fetched : HaveFetched g names repo journal answers
  -- Of these answers this is the first refusal.
  pub first : IsFirstRefusal answers index e
  -- It isn't refused since a reference is another than it saw: no other worker touches the names of its share.
  pub untouched : (name : List ℕ) (found : Option Target) → e ≢ shared.EditReferences name found

-- from one to eight
abbrev pub IsFew : ℕ → Type 0
IsFew workers = (1 ≤ workers) × (workers ≤ 8)

-- Why a server isn't mirrored, by the first cause in this order: the count of workers, the listing, and the least worker that was
-- refused. Out of memory says nothing of it.
abbrev pub IsUnmirrored : {P : Type 0} → Given P → MirrorError → Type 0
IsUnmirrored g (errors.Workers count) = (IsFew g.workers → ⊥) × (count ≡ g.workers)
IsUnmirrored g (errors.Server e) = ⊥
IsUnmirrored g (errors.List e) = IsFew g.workers × IsUnlisted g.asking e
IsUnmirrored g (errors.Worker index e) = IsFew g.workers × IsWorkerRefused g index e × (e ≢ shared.NoMemory)
IsUnmirrored g errors.NoMemory = IsFew g.workers

-- ---- what the workers' answers tell

-- a worker's refusal; out of memory is told by itself, also where it kept this from being told
abbrev pub IsRefusalOf : ℕ → SharedError → MirrorError → Type 0
IsRefusalOf index cause e = (e ≡ errors.NoMemory) ⊎ ((e ≡ errors.Worker index cause) × (cause ≢ shared.NoMemory))

-- The answer is a refusal, and this tells it.
pub record IsToldOf (index : ℕ) (answer : Option (Result Outcome SharedError)) (e : MirrorError) : Type 0 where
  pub cause : SharedError
  pub refused : answer ≡ Some (Err cause)
  pub told : IsRefusalOf index cause e

-- where there is an answer, the worker wasn't refused
abbrev pub IsUnrefused : Option (Result Outcome SharedError) → Type 0
IsUnrefused None = ⊤
IsUnrefused (Some answer) = IsOk answer

-- none of them was refused
abbrev pub AreUnrefused : List (JobRun (Unit {0})) → Type 0
AreUnrefused job_runs = (i : ℕ) (job_run : JobRun (Unit {0})) → slice_get job_runs i ≡ Some job_run → IsUnrefused (answer_in job_run)

-- This is the first of them that was refused.
pub record TellsFirst (job_runs : List (JobRun (Unit {0}))) (e : MirrorError) : Type 0 where
  pub index : ℕ
  pub job_run : JobRun (Unit {0})
  pub at : slice_get job_runs index ≡ Some job_run
  pub refused : IsToldOf index (answer_in job_run) e
  pub before : AreUnrefused (take index job_runs)
