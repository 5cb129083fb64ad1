-- Jobs that are read one after the other.
use Rattle.std.proofs.Common.{◌≡◌, ℕ, zero, suc, List, [], ◌∷◌, ◌++◌, Some, None, Result, Ok, Err, refl, sym, ap, ◌∙◌, append_assoc}
use Rattle.std.proofs.lemmas.List.{append-nil}
use Rattle.fetch_scene.specs.declared.fault.SceneFault.{SceneFault}
use Rattle.fetch_scene.specs.declared.fault.SceneFault.TheVariants.{Malformed, NoMemory}
use Rattle.fetch_scene.specs.Gives.{◌>>=◌, FailsAs}
use Rattle.fetch_scene.specs.SceneLines.{Lines}
use Rattle.race_cli.specs.declared.scene.jobs.RaceJob.{RaceJob}
use Rattle.race_cli.specs.Jobs.{job_of, further_job, jobs_within, jobs_of}

-- what was read before, and then the others
abbrev pub before : List RaceJob → Result (List RaceJob × Lines) ℕ → Result (List RaceJob × Lines) ℕ
before front (Ok x) = Ok (front ++ x.0, x.1)
before front (Err place) = Err place

-- one job before the others
joined : (job : RaceJob) (found : Result (List RaceJob × Lines) ℕ) → (found >>= λ jobs. Ok (job ∷ jobs.0, jobs.1)) ≡ before (job ∷ []) found
joined job (Ok x) = refl
joined job (Err place) = refl

pub starts : (ls rest : Lines) (first : RaceJob) → job_of ls ≡ Ok (first, rest) → before (first ∷ []) (jobs_within 7 rest) ≡ jobs_of ls
unfolding jobs_of
starts ls rest first is = rw is (sym (joined first (jobs_within 7 rest)))

regroup : (front : List RaceJob) (job : RaceJob) (found : Result (List RaceJob × Lines) ℕ) → before (front ++ job ∷ []) found ≡ before front (before (job ∷ []) found)
regroup front job (Ok x) = ap (λ (jobs : List RaceJob). Ok (jobs, x.1)) (append_assoc front (job ∷ []) x.0)
regroup front job (Err place) = refl

one : (n : ℕ) (ls rest : Lines) (job : RaceJob) → further_job ls ≡ Ok (Some job, rest) → jobs_within (suc n) ls ≡ before (job ∷ []) (jobs_within n rest)
unfolding jobs_within
one n ls rest job is = rw is (joined job (jobs_within n rest))

-- a job more
pub goes : (n k : ℕ) (front : List RaceJob) (ls rest : Lines) (job : RaceJob) (total : Result (List RaceJob × Lines) ℕ) → n ≡ suc k → further_job ls ≡ Ok (Some job, rest)
    → before front (jobs_within n ls) ≡ total → before (front ++ job ∷ []) (jobs_within k rest) ≡ total
goes n k front ls rest job total more is so_far =
    regroup front job _ ∙ ap (before front) (sym (one k ls rest job is)) ∙ (rw more at so_far)

pub none : (n : ℕ) (ls rest : Lines) → further_job ls ≡ Ok (None, rest) → jobs_within (suc n) ls ≡ Ok ([], rest)
unfolding jobs_within
none n ls rest is = rw is refl

-- no job more
pub ends : (n k : ℕ) (front : List RaceJob) (ls rest : Lines) (total : Result (List RaceJob × Lines) ℕ) → n ≡ suc k → further_job ls ≡ Ok (None, rest)
    → before front (jobs_within n ls) ≡ total → total ≡ Ok (front, rest)
ends n k front ls rest total more is so_far =
    sym (rw more at so_far) ∙ ap (before front) (none k ls rest is) ∙ ap (λ (jobs : List RaceJob). Ok (jobs, rest)) (append-nil front)

broken : (n place : ℕ) (ls : Lines) → further_job ls ≡ Err place → jobs_within (suc n) ls ≡ Err place
unfolding jobs_within
broken n place ls is = rw is refl

-- a job that breaks the grammar
pub breaks : (n k place : ℕ) (front : List RaceJob) (ls : Lines) (total : Result (List RaceJob × Lines) ℕ) → n ≡ suc k → further_job ls ≡ Err place
    → before front (jobs_within n ls) ≡ total → total ≡ Err place
breaks n k place front ls total more is so_far = sym (rw more at so_far) ∙ ap (before front) (broken k place ls is)

-- as many jobs as there may be
pub fills : (n : ℕ) (front : List RaceJob) (ls : Lines) (total : Result (List RaceJob × Lines) ℕ) → n ≡ zero → before front (jobs_within n ls) ≡ total → total ≡ Ok (front, ls)
unfolding jobs_within
fills n front ls total none so_far = sym (rw none at so_far) ∙ ap (λ (jobs : List RaceJob). Ok (jobs, ls)) (append-nil front)

starts_broken : (ls : Lines) (place : ℕ) → job_of ls ≡ Err place → jobs_of ls ≡ Err place
unfolding jobs_of
starts_broken ls place is = rw is refl

-- the first job breaks the grammar
pub starts_failed : (ls : Lines) (e : SceneFault) → FailsAs e (job_of ls) → FailsAs e (jobs_of ls)
starts_failed ls (Malformed place) is = starts_broken ls place is
starts_failed ls NoMemory is = tt

-- a further job breaks the grammar
pub goes_failed : (n k : ℕ) (front : List RaceJob) (ls : Lines) (total : Result (List RaceJob × Lines) ℕ) (e : SceneFault) → n ≡ suc k → before front (jobs_within n ls) ≡ total → FailsAs e (further_job ls) → FailsAs e total
goes_failed n k front ls total (Malformed place) more so_far is = breaks n k place front ls total more is so_far
goes_failed n k front ls total NoMemory more so_far is = tt
