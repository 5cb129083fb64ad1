-- From a fetch to its report.
use Rattle.std.proofs.Common.{◌≡◌, ◌≢◌, ℕ, List, Option, Result, Ok, Err, IfOk, refl, sym, ap, ◌∙◌}
use Rattle.fetch_files.specs.Trees.{Tree}
use Rattle.fetch_update.specs.declared.worktrees.Worktree.{Worktree}
use Rattle.fetch_lines.specs.declared.lines.line.Line.{Line}
use Rattle.fetch_remote.specs.Fetching.{requests_in}
use Rattle.fetch_remote.specs.Form.{Given}
use Rattle.fetch_remote.specs.Valid.{IsValidInput}
use Rattle.fetch_remote.proofs.Complete.{fetches_it}
use Rattle.fetch_remote.specs.Repositories.{State}
use Rattle.fetch_remote.specs.declared.fetching.fetch_error.FetchError.{FetchError}
use Rattle.fetch_remote.specs.declared.fetching.fetch_error.FetchError.TheVariants as errors
use Rattle.fetch_remote.specs.declared.fetching.outcome.Outcome.{Outcome}
use Rattle.fetch_cli.specs.Fetched.{HasDone, HasRefused, HasFetchedBy, HasFetched}
use Rattle.fetch_cli.specs.Heard.{lines_heard}
use Rattle.fetch_cli.specs.KeepFiles.{first_kept}
use Rattle.fetch_cli.specs.Report.{report_with, report_of, requests_of, left_by, keep_left_by, given_of, found_of, stream_of, done_text, beside, Tells, IsReport, Reports}
use Rattle.fetch_scene.specs.declared.scene.Scene.{Scene}
use Rattle.fetch_cli.proofs.KeepFiles.{kept_is}
use Rattle.fetch_cli.proofs.Requested.{requests_heard}

-- the two parts of a pair of a status and a text
abbrev pub pair : ℕ → List ℕ → ℕ × List ℕ
pair status text = (status, text)

lines_are : (scene : Scene) (heard : List ℕ) → heard ≡ requests_of scene → lines_heard heard ≡ requests_in (given_of scene) (found_of scene) (stream_of scene)
lines_are scene heard is = ap (λ (bytes : List ℕ). lines_heard bytes) is ∙ requests_heard scene

done_is : (scene : Scene) (status : ℕ) (text heard : List ℕ) (outcome : Outcome) (left : State) → HasDone (given_of scene) scene.worktrees (found_of scene) (stream_of scene) outcome left heard
    → pair 0 (done_text (lines_heard heard) outcome left) ≡ (status, text) → IsReport scene status text
unfolding report_of
done_is scene status text heard outcome left h is = record { whole = rw (h.fetched, ← lines_are scene heard h.requests) is }

-- the git directory of a scene
abbrev dir_of : Scene → List ℕ
dir_of scene = (given_of scene).setup.settings.git_dir

refused_is : (scene : Scene) (status : ℕ) (text heard : List ℕ) (e : FetchError) (left : State) (files : Tree) (keep : Option (List ℕ)) → HasRefused (given_of scene) scene.worktrees (found_of scene) (stream_of scene) e left files heard
    → keep ≡ first_kept (dir_of scene) files → report_with (lines_heard heard) (Err e) left keep ≡ (status, text) → IsReport scene status text
unfolding report_of
refused_is scene status text heard e left files keep h stands is =
    let same = ap (λ (sent : List Line). report_with sent (Err e) left keep) (lines_are scene heard h.requests) in
    let kept : keep ≡ keep_left_by scene = stands ∙ kept_is (given_of scene) (found_of scene) (stream_of scene) files h.kept in
    record { whole = rw (h.fetched, ← h.left, ← kept) (sym same ∙ is) }

is_report : (scene : Scene) (status : ℕ) (text heard : List ℕ) (result : Result Outcome FetchError) (left : State) (files : Tree) (keep : Option (List ℕ)) → HasFetchedBy (given_of scene) scene.worktrees (found_of scene) (stream_of scene) result left files heard
    → keep ≡ first_kept (dir_of scene) files → result ≢ Err errors.NoMemory → report_with (lines_heard heard) (beside left result) left keep ≡ (status, text) → IsReport scene status text
is_report scene status text heard (Ok outcome) left files keep h stands known is = done_is scene status text heard outcome left h is
is_report scene status text heard (Err errors.NoMemory) left files keep h stands known is = absurd (known refl)
is_report scene status text heard (Err (errors.Prepare e)) left files keep h stands known is = refused_is scene status text heard (errors.Prepare e) left files keep h stands is
is_report scene status text heard (Err (errors.Receive e)) left files keep h stands known is = refused_is scene status text heard (errors.Receive e) left files keep h stands is

reports : (scene : Scene) (old new : List ℕ) (status : ℕ) (g : Given) (trees : List Worktree) (found left : State) (files : Tree) (keep : Option (List ℕ)) (stream heard : List ℕ) (result : Result Outcome FetchError)
    → g ≡ given_of scene → trees ≡ scene.worktrees → found ≡ found_of scene → stream ≡ stream_of scene → HasFetched g trees found stream result left files heard → keep ≡ first_kept g.setup.settings.git_dir files → Tells old new status result left keep heard
    → Reports scene old new status
reports scene old new status g trees found left files keep stream heard result given_is trees_is found_is stream_is h stands t =
    let by : HasFetchedBy (given_of scene) scene.worktrees (found_of scene) (stream_of scene) result left files heard = rw (given_is, trees_is, found_is, stream_is) at h.by in
    let there : keep ≡ first_kept (dir_of scene) files = stands ∙ ap (λ (x : Given). first_kept x.setup.settings.git_dir files) given_is in
    record { text = t.text; reported = is_report scene status t.text heard result left files keep by there t.known t.is; added = t.added }

pub reports_if : {E : Type 0} (scene : Scene) (old new : List ℕ) (answer : Result ℕ E) (g : Given) (trees : List Worktree) (found left : State) (files : Tree) (keep : Option (List ℕ)) (stream heard : List ℕ) (result : Result Outcome FetchError)
    → g ≡ given_of scene → trees ≡ scene.worktrees → found ≡ found_of scene → stream ≡ stream_of scene → HasFetched g trees found stream result left files heard → keep ≡ first_kept g.setup.settings.git_dir files
    → IfOk answer (λ status. Tells old new status result left keep heard) → IfOk answer (λ status. Reports scene old new status)
reports_if scene old new (Err e) g trees found left files keep stream heard result given_is trees_is found_is stream_is h stands t = tt
reports_if scene old new (Ok status) g trees found left files keep stream heard result given_is trees_is found_is stream_is h stands t = reports scene old new status g trees found left files keep stream heard result given_is trees_is found_is stream_is h stands t

-- a scene with valid input is fetched
pub valid_fetched : (scene : Scene) (status : ℕ) (text : List ℕ) → IsValidInput (given_of scene) scene.worktrees (found_of scene) (stream_of scene) → IsReport scene status text → status ≡ 0
unfolding report_of
valid_fetched scene status text v r =
    let f = fetches_it (given_of scene) scene.worktrees (found_of scene) (stream_of scene) v in
    let is : report_with (requests_in (given_of scene) (found_of scene) (stream_of scene)) (Ok f.0) (left_by scene) (keep_left_by scene) ≡ (status, text) = rw f.1 at r.whole in
    ap (λ (x : ℕ × List ℕ). x.0) (sym is)
