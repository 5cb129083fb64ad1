-- The jobs of a race: one to eight, each a remote and what its peer says, and a delimiter between two.
use Rattle.std.specs.Prelude.{ℕ, zero, suc, ◌≤◌, Bool, true, false, List, [], ◌∷◌, length, Option, Some, None, is_some, Result, Ok}
use Rattle.fetch_scene.specs.Gives.{◌>>=◌}
use Rattle.fetch_scene.specs.Scene.{remote_of, payloads_of}
use Rattle.fetch_scene.specs.SceneLines.{Lines, delimits, next_if}
use Rattle.race_cli.specs.declared.scene.jobs.RaceJob.{RaceJob}

-- a remote, with the delimiter after it, and what its peer says
unfoldable pub job_of : Lines → Result (RaceJob × Lines) ℕ
job_of ls = do
  remote ← remote_of ls
  pieces ← payloads_of remote.1
  Ok (record { remote = remote.0; pieces = pieces.0 }, pieces.1)

-- a job where one is next, and else the lines as they are
abbrev pub job_if : Bool → Lines → Result (Option RaceJob × Lines) ℕ
job_if false ls = Ok (None, ls)
job_if true ls = do
  job ← job_of ls
  Ok (Some job.0, job.1)

-- the job after a delimiter; where none is next there is no job more, and the lines are left
unfoldable pub further_job : Lines → Result (Option RaceJob × Lines) ℕ
further_job ls = job_if (is_some (next_if delimits ls).0) (next_if delimits ls).1

-- a job before those that the lines behind it give
abbrev pub and_others : (Lines → Result (List RaceJob × Lines) ℕ) → Option RaceJob → Lines → Result (List RaceJob × Lines) ℕ
and_others others None ls = Ok ([], ls)
and_others others (Some job) ls = do
  jobs ← others ls
  Ok (job ∷ jobs.0, jobs.1)

-- at most so many jobs more
unfoldable pub jobs_within : ℕ → Lines → Result (List RaceJob × Lines) ℕ
jobs_within zero ls = Ok ([], ls)
jobs_within (suc n) ls = do
  job ← further_job ls
  and_others (jobs_within n) job.0 job.1

-- one job, and at most seven more
unfoldable pub jobs_of : Lines → Result (List RaceJob × Lines) ℕ
jobs_of ls = do
  first ← job_of ls
  others ← jobs_within 7 first.1
  Ok (first.0 ∷ others.0, others.1)

-- There are one to eight.
abbrev pub AreFew : List RaceJob → Type 0
AreFew jobs = (1 ≤ length jobs) × (length jobs ≤ 8)
