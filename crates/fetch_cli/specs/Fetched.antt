-- A fetch with these worktrees, from a peer that says these bytes, over files that begin with nothing; none of them fails.
use Rattle.std.specs.Prelude.{◌≡◌, ℕ, List, Some, Result, Ok, Err, ⊤}
use Rattle.std.specs.FinMap as map
use Rattle.fetch_files.specs.Trees.{Tree}
use Rattle.fetch_update.specs.declared.worktrees.Worktree.{Worktree}
use Rattle.fetch_lines.specs.Written.{lines_text}
use Rattle.fetch_remote.specs.Fetching.{fetched_in, requests_in, left_in, keep_left_in}
use Rattle.fetch_remote.specs.Form.{Given}
use Rattle.fetch_remote.specs.Keeping.{with_keep}
use Rattle.fetch_remote.specs.Repositories.{State}
use Rattle.fetch_remote.specs.declared.fetching.fetch_error.FetchError.{FetchError}
use Rattle.fetch_remote.specs.declared.fetching.fetch_error.FetchError.TheVariants as errors
use Rattle.fetch_remote.specs.declared.fetching.outcome.Outcome.{Outcome}

-- It was done, and the peer heard all requests.
pub record HasDone (g : Given) (trees : List Worktree) (found : State) (stream : List ℕ) (outcome : Outcome) (left : State)
    (heard : List ℕ) : Type 0 where
  pub fetched : fetched_in g trees found stream ≡ Ok (outcome, left)
  pub requests : heard ≡ lines_text (requests_in g found stream)

-- It was refused, and the peer heard all requests up to that. The one file that may stand is the keep file.
pub record HasRefused (g : Given) (trees : List Worktree) (found : State) (stream : List ℕ) (e : FetchError) (now : State) (files : Tree)
    (heard : List ℕ) : Type 0 where
  pub fetched : fetched_in g trees found stream ≡ Err e
  pub left : now ≡ left_in g found stream
  pub kept : with_keep (keep_left_in g found stream) map.empty ≡ Some files
  pub requests : heard ≡ lines_text (requests_in g found stream)

-- Neither the peer, the files nor the worktrees fail, and nobody interrupts; memory may run out.
abbrev pub HasRefusedBy : Given → List Worktree → State → List ℕ → FetchError → State → Tree → List ℕ → Type 0
HasRefusedBy g trees found stream errors.NoMemory left files heard = ⊤
HasRefusedBy g trees found stream (errors.Prepare e) left files heard = HasRefused g trees found stream (errors.Prepare e) left files heard
HasRefusedBy g trees found stream (errors.Receive e) left files heard = HasRefused g trees found stream (errors.Receive e) left files heard

-- What a scene's fetch left, and what its peer heard.
abbrev pub HasFetchedBy : Given → List Worktree → State → List ℕ → Result Outcome FetchError → State → Tree → List ℕ → Type 0
HasFetchedBy g trees found stream (Ok outcome) left files heard = HasDone g trees found stream outcome left heard
HasFetchedBy g trees found stream (Err e) left files heard = HasRefusedBy g trees found stream e left files heard

-- the same, as a fact of its own
pub record HasFetched (g : Given) (trees : List Worktree) (found : State) (stream : List ℕ) (result : Result Outcome FetchError)
    (left : State) (files : Tree) (heard : List ℕ) : Type 0 where
  pub by : HasFetchedBy g trees found stream result left files heard
