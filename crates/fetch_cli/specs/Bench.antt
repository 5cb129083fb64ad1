-- What is told of a bench's fetch.
use Rattle.std.specs.Prelude.{◌≡◌, ◌≢◌, ℕ, List, ◌++◌, length, codes, Result, Ok, Err}
use Rattle.std.specs.FinMap as map
use Rattle.fetch_remote.specs.Repositories.{State}
use Rattle.fetch_remote.specs.declared.fetching.fetch_error.FetchError.{FetchError}
use Rattle.fetch_remote.specs.declared.fetching.fetch_error.FetchError.TheVariants as errors
use Rattle.fetch_remote.specs.declared.fetching.outcome.Outcome.{Outcome}
use Rattle.fetch_cli.specs.Report.{beside, fetched_by, map_lines, updates_of}
use Rattle.fetch_cli.specs.ReportLines.{counted_line, refused_line}
use Rattle.fetch_cli.specs.Tokens.{token}
use Rattle.fetch_scene.specs.declared.scene.Scene.{Scene}

-- `bench <n>`
abbrev pub bench_line : ℕ → List ℕ
bench_line n = counted_line (codes "bench ") n

-- how many objects and references there are: as many as the report has lines of ids and of references
abbrev pub count_lines : State → List ℕ
count_lines s = counted_line (codes "objects ") (length (map.keys s.objects))
    ++ counted_line (codes "refs ") (length (map.entries s.refs.names))

-- the summary of a fetch that was done
unfoldable pub done_summary : ℕ → Outcome → State → List ℕ
done_summary n outcome after = bench_line n ++ map_lines outcome.ref_map.mappings (updates_of outcome.status).updates ++ count_lines after
    ++ codes "ok\n"

-- the summary of a fetch that was refused
unfoldable pub refused_summary : ℕ → FetchError → List ℕ
refused_summary n e = bench_line n ++ refused_line (token e)

-- the status, and the summary
abbrev pub summary_with : ℕ → Result (Outcome × State) FetchError → ℕ × List ℕ
summary_with n (Ok x) = (0, done_summary n x.0 x.1)
summary_with n (Err e) = (1, refused_summary n e)

-- the summary of the report of a scene: its lines of mappings, or of a refusal
unfoldable pub summary_of : ℕ → Scene → ℕ × List ℕ
summary_of n s = summary_with n (fetched_by s)

-- the summary of a fetch that answered this and left this state
pub record SumsUp (n : ℕ) (status : ℕ) (text : List ℕ) (result : Result Outcome FetchError) (left : State) : Type 0 where
  pub is : summary_with n (beside left result) ≡ (status, text)
  pub known : result ≢ Err errors.NoMemory

-- The status and the text are the summary of the scene.
pub record IsSummary (n : ℕ) (s : Scene) (status : ℕ) (text : List ℕ) : Type 0 where
  pub whole : summary_of n s ≡ (status, text)
