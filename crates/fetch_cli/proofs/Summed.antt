-- From a fetch to its summary.
use Rattle.std.proofs.Common.{◌≡◌, ℕ, List, ◌++◌, length, codes, Option, Result, Ok, Err, IfOk, OnOk, refl, sym, ap, ◌∙◌, append_assoc}
use Rattle.std.proofs.lemmas.List.{length-map}
use Rattle.std.specs.FinMap as map
use Rattle.fetch_store.specs.Stores.{ObjectMap}
use Rattle.fetch_files.specs.Trees.{Tree}
use Rattle.fetch_update.specs.declared.worktrees.Worktree.{Worktree}
use Rattle.fetch_lines.specs.declared.lines.line.Line.{Line}
use Rattle.fetch_remote.specs.Fetching.{requests_in}
use Rattle.fetch_remote.specs.Form.{Given}
use Rattle.fetch_remote.specs.Repositories.{State}
use Rattle.fetch_remote.specs.declared.fetching.fetch_error.FetchError.{FetchError}
use Rattle.fetch_remote.specs.declared.fetching.fetch_error.FetchError.TheVariants as errors
use Rattle.fetch_remote.specs.declared.fetching.outcome.Outcome.{Outcome}
use Rattle.fetch_cli.specs.Bench.{count_lines, summary_with, summary_of, SumsUp, IsSummary}
use Rattle.fetch_cli.specs.Fetched.{HasFetchedBy, HasFetched}
use Rattle.fetch_cli.specs.Report.{report_with, report_of, fetched_by, left_by, keep_left_by, given_of, found_of, stream_of}
use Rattle.fetch_cli.specs.ReportLines.{counted_line}
use Rattle.fetch_scene.specs.declared.scene.Scene.{Scene}

sum_is : (n : ℕ) (scene : Scene) (status : ℕ) (text heard : List ℕ) (result : Result Outcome FetchError) (left : State) (files : Tree) → HasFetchedBy (given_of scene) scene.worktrees (found_of scene) (stream_of scene) result left files heard
    → SumsUp n status text result left → IsSummary n scene status text
unfolding summary_of
sum_is n scene status text heard (Ok outcome) left files h s = record { whole = rw h.fetched s.is }
sum_is n scene status text heard (Err errors.NoMemory) left files h s = absurd (s.known refl)
sum_is n scene status text heard (Err (errors.Prepare e)) left files h s = record { whole = rw h.fetched s.is }
sum_is n scene status text heard (Err (errors.Receive e)) left files h s = record { whole = rw h.fetched s.is }

sums : (n : ℕ) (scene : Scene) (status : ℕ) (text : List ℕ) (g : Given) (trees : List Worktree) (found left : State) (files : Tree) (stream heard : List ℕ) (result : Result Outcome FetchError)
    → g ≡ given_of scene → trees ≡ scene.worktrees → found ≡ found_of scene → stream ≡ stream_of scene → HasFetched g trees found stream result left files heard → SumsUp n status text result left → IsSummary n scene status text
sums n scene status text g trees found left files stream heard result given_is trees_is found_is stream_is h s =
    let by : HasFetchedBy (given_of scene) scene.worktrees (found_of scene) (stream_of scene) result left files heard = rw (given_is, trees_is, found_is, stream_is) at h.by in
    sum_is n scene status text heard result left files by s

pub sums_if : {V E : Type 0} (status : V → ℕ) (text : V → List ℕ) (answer : Result V E) (n : ℕ) (scene : Scene) (g : Given) (trees : List Worktree) (found left : State) (files : Tree) (stream heard : List ℕ) (result : Result Outcome FetchError)
    → g ≡ given_of scene → trees ≡ scene.worktrees → found ≡ found_of scene → stream ≡ stream_of scene → HasFetched g trees found stream result left files heard
    → IfOk answer (λ x. SumsUp n (status x) (text x) result left) → IfOk answer (λ x. IsSummary n scene (status x) (text x))
sums_if status text (Err e) n scene g trees found left files stream heard result given_is trees_is found_is stream_is h s = tt
sums_if status text (Ok x) n scene g trees found left files stream heard result given_is trees_is found_is stream_is h s = sums n scene (status x) (text x) g trees found left files stream heard result given_is trees_is found_is stream_is h s

-- ---- what is counted

as_many_ids : (objects : ObjectMap) → map.len objects ≡ length (map.keys objects)
as_many_ids objects = map.len-entries objects ∙ sym (length-map (map.entries objects) (λ e. e.0))

added : (out one two : List ℕ) (s : State) (objects refs : ℕ) → objects ≡ map.len s.objects → refs ≡ length (map.entries s.refs.names)
    → one ≡ out ++ counted_line (codes "objects ") objects → two ≡ one ++ counted_line (codes "refs ") refs → two ≡ out ++ count_lines s
added out one two s objects refs objects_are refs_are first second =
    let o : objects ≡ length (map.keys s.objects) = objects_are ∙ as_many_ids s.objects in
    let both : two ≡ out ++ (counted_line (codes "objects ") objects ++ counted_line (codes "refs ") refs) =
    second ∙ ap (λ (l : List ℕ). l ++ counted_line (codes "refs ") refs) first ∙ append_assoc out (counted_line (codes "objects ") objects) (counted_line (codes "refs ") refs) in
    rw (o, refs_are) at both

pub counts : {T E : Type 0} (result : Result T E) (out one two : List ℕ) (s : State) (objects refs : ℕ) → objects ≡ map.len s.objects → refs ≡ length (map.entries s.refs.names)
    → one ≡ out ++ counted_line (codes "objects ") objects → OnOk result (two ≡ one ++ counted_line (codes "refs ") refs) → OnOk result (two ≡ out ++ count_lines s)
counts (Err e) out one two s objects refs objects_are refs_are first second = tt
counts (Ok x) out one two s objects refs objects_are refs_are first second = added out one two s objects refs objects_are refs_are first second

-- ---- a summary and its report

same_status : (n : ℕ) (sent : List Line) (result : Result (Outcome × State) FetchError) (left : State) (keep : Option (List ℕ)) → (summary_with n result).0 ≡ (report_with sent result left keep).0
same_status n sent (Ok x) left keep = refl
same_status n sent (Err errors.NoMemory) left keep = refl
same_status n sent (Err (errors.Prepare e)) left keep = refl
same_status n sent (Err (errors.Receive e)) left keep = refl

pub status_of_both : (n : ℕ) (scene : Scene) → (summary_of n scene).0 ≡ (report_of scene).0
unfolding summary_of report_of
status_of_both n scene = same_status n (requests_in (given_of scene) (found_of scene) (stream_of scene)) (fetched_by scene) (left_by scene) (keep_left_by scene)
