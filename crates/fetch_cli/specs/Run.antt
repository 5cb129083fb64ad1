-- What the program writes, and its status.
use Rattle.std.specs.Prelude.{◌≡◌, ◌≤◌, ◌⊎◌, ℕ, Bool, true, false, List, Option, Some, Result, Ok, Err}
use Rattle.std.specs.Io.KnownBytes.{Appends}
use Rattle.fetch_remote.specs.Valid.{IsValidInput}
use Rattle.fetch_check.specs.declared.findings.Findings.{Findings}
use Rattle.fetch_check.specs.Telling.{findings_status, findings_text}
use Rattle.fetch_scene.specs.declared.scene.Scene.{Scene}
use Rattle.fetch_cli.specs.declared.program.running.Task.{Task}
use Rattle.fetch_cli.specs.declared.program.running.Task.TheVariants as tasks
use Rattle.fetch_cli.specs.declared.program.server_scene.ServerScene.{ServerScene}
use Rattle.fetch_cli.specs.declared.program.words.Command.{Command}
use Rattle.fetch_cli.specs.declared.program.words.Command.TheVariants.{Fetch, Check, Bench, Help, Version}
use Rattle.fetch_bench_scene.specs.Bench.{generated_scene}
use Rattle.fetch_cli.specs.Bench.{summary_of, IsSummary}
use Rattle.fetch_cli.specs.Checks.{AreFoundIn, IsChecked, repository_of}
use Rattle.fetch_cli.specs.Io.{IsAll}
use Rattle.fetch_cli.specs.Report.{given_of, found_of, stream_of, IsReport}
use Rattle.fetch_cli.specs.ReportLines.{malformed_line, malformed_word_line}
use Rattle.fetch_cli.specs.ServerScenes.{server_scene_of}
use Rattle.fetch_scene.specs.Scene.{scene_of}
use Rattle.fetch_cli.specs.Words.{command_of, help_text, version_text}

-- this status and this text
abbrev pub Are : ℕ → List ℕ → ℕ → List ℕ → Type 0
Are wanted words status text = (status ≡ wanted) × (text ≡ words)

-- the report of a scene; or where the bytes are none
abbrev pub IsSceneAnswer : Result Scene ℕ → ℕ → List ℕ → Type 0
IsSceneAnswer (Ok scene) status text = IsReport scene status text
IsSceneAnswer (Err place) status text = Are 4 (malformed_line place) status text

-- what is found in the repository of a server scene; or where the bytes are none
abbrev pub IsServerAnswer : Result ServerScene ℕ → ℕ → List ℕ → Type 0
IsServerAnswer (Ok scene) status text = IsChecked scene status text
IsServerAnswer (Err place) status text = Are 4 (malformed_line place) status text

-- the answer to bytes, by what is done with them
abbrev pub IsBytesAnswer : Task → List ℕ → ℕ → List ℕ → Type 0
IsBytesAnswer tasks.Fetch bytes status text = IsSceneAnswer (scene_of bytes) status text
IsBytesAnswer tasks.Check bytes status text = IsServerAnswer (server_scene_of bytes) status text

-- The answer to all that is in the input, where the source tells it, by what is done with it.
pub record IsInputAnswer (task : Task) (input : Option (List ℕ)) (status : ℕ) (text : List ℕ) : Type 0 where
  pub bytes : List ℕ
  pub read : IsAll input bytes
  pub answer : IsBytesAnswer task bytes status text

-- the answer to each word; `bench` is answered the same whatever the input
abbrev pub IsAnswerTo : Result Command ℕ → Option (List ℕ) → ℕ → List ℕ → Type 0
IsAnswerTo (Err number) input status text = Are 4 (malformed_word_line number) status text
IsAnswerTo (Ok Help) input status text = Are 0 help_text status text
IsAnswerTo (Ok Version) input status text = Are 0 version_text status text
IsAnswerTo (Ok (Bench count)) input status text = IsSummary count (generated_scene count) status text
IsAnswerTo (Ok Fetch) input status text = IsInputAnswer tasks.Fetch input status text
IsAnswerTo (Ok Check) input status text = IsInputAnswer tasks.Check input status text

-- what these words are answered, with this input
pub record IsAnswer (words : List (List ℕ)) (input : Option (List ℕ)) (status : ℕ) (text : List ℕ) : Type 0 where
  pub is : IsAnswerTo (command_of words) input status text

-- whether a command reads the input; others leave the source alone
abbrev pub reads_input : Result Command ℕ → Bool
reads_input (Ok Fetch) = true
reads_input (Ok Check) = true
reads_input (Ok (Bench count)) = false
reads_input (Ok Help) = false
reads_input (Ok Version) = false
reads_input (Err number) = false

-- whether the words ask for a fetch or a check
abbrev pub asks_input : List (List ℕ) → Bool
asks_input words = reads_input (command_of words)

-- the words are `bench <count>`
abbrev pub AsksBench : List (List ℕ) → ℕ → Type 0
AsksBench words count = command_of words ≡ Ok (Bench count)

-- This status, but where the source or the sink failed or memory ran out.
abbrev pub IsUnlessFailed : ℕ → ℕ → Type 0
IsUnlessFailed result status = (result ≡ status) ⊎ ((result ≡ 2) ⊎ ((result ≡ 3) ⊎ (result ≡ 5)))

-- The words ask for a fetch, and the source tells a scene whose input is valid.
pub record HasValidScene (words : List (List ℕ)) (input : Option (List ℕ)) : Type 0 where
  pub bytes : List ℕ
  pub scene : Scene
  pub asks : command_of words ≡ Ok Fetch
  pub told : input ≡ Some bytes
  pub is : scene_of bytes ≡ Ok scene
  pub valid : IsValidInput (given_of scene) scene.worktrees (found_of scene) (stream_of scene)

-- The words ask for a check, the source tells a server scene, and these are the findings in its repository.
pub record HasFindings (words : List (List ℕ)) (input : Option (List ℕ)) (findings : Findings) : Type 0 where
  pub bytes : List ℕ
  pub scene : ServerScene
  pub asks : command_of words ≡ Ok Check
  pub told : input ≡ Some bytes
  pub is : server_scene_of bytes ≡ Ok scene
  pub found : AreFoundIn (repository_of scene) findings

-- The summary of the scene of that many commits was written whole, with its status.
pub record WritesSummary (count : ℕ) (old new : Option (List ℕ)) (status : ℕ) : Type 0 where
  pub text : List ℕ
  pub summary : IsSummary count (generated_scene count) status text
  pub wrote : Appends old new text

-- the status of that summary, whatever the source says
abbrev pub bench_status : ℕ → ℕ
bench_status count = (summary_of count (generated_scene count)).0

-- A bench writes the summary of its scene, with its status.
pub record IsBenched (count : ℕ) (old new : Option (List ℕ)) (status : ℕ) : Type 0 where
  pub summary : status ≤ 1 → WritesSummary count old new status
  pub exact : IsUnlessFailed status (bench_status count)

-- A check writes all that is found, with the status for that.
pub record IsCheckOf (findings : Findings) (old new : Option (List ℕ)) (status : ℕ) : Type 0 where
  pub text : status ≤ 1 → Appends old new (findings_text findings)
  pub exact : IsUnlessFailed status (findings_status findings)
