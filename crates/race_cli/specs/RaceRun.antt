-- What the program writes of a race, and its status.
use Rattle.std.specs.Prelude.{◌≡◌, ℕ, Bool, true, false, List, [], ◌∷◌, map, Option, Some, None, Result, Ok, Err, slice_get}
use Rattle.std.specs.List.{concat}
use Rattle.fetch_base.specs.Calls.{faults_of}
use Rattle.fetch_store.specs.Missing.{unclosed}
use Rattle.fetch_store.specs.declared.missing.Missing.{Missing}
use Rattle.fetch_wire.specs.Scripts.{Script, talk_of}
use Rattle.fetch_cli.specs.Io.{IsAll}
use Rattle.fetch_cli.specs.ReportLines.{malformed_line, malformed_word_line}
use Rattle.fetch_cli.specs.Run.{Are}
use Rattle.fetch_journal.specs.Machine.{held}
use Rattle.fetch_journal.specs.Replays.{outline}
use Rattle.fetch_journal.specs.declared.error.SharedError.TheVariants as errors
use Rattle.fetch_race.specs.Racing.{Race, IsRaced}
use Rattle.fetch_race.specs.declared.job.Job.{Job}
use Rattle.fetch_race.specs.declared.job.Raced.{Raced}
use Rattle.race_cli.specs.RaceReports.{IsRaceReport, IsRefusedReport, race_of}
use Rattle.race_cli.specs.RaceScenes.{race_scene_of}
use Rattle.race_cli.specs.RaceWords.{race_asked}
use Rattle.race_cli.specs.RaceCases.{job_in, opening_of}
use Rattle.race_cli.specs.declared.scene.RaceScene.{RaceScene}
use Rattle.race_cli.specs.declared.race_case.JobCase.{JobCase}

-- A job is as it is set up: its peer says these pieces, whatever it hears, and never fails.
pub record IsSetUp (opened_case : JobCase) (job : Job Script) : Type 0 where
  pub remote : job.remote ≡ opened_case.remote
  pub options : job.options ≡ opened_case.options
  pub says : talk_of job.peer ≡ record { heard = []; given = []; to_come = concat opened_case.pieces; receives = []; rule = None }
  pub sure : (faults_of job.peer.calls job.peer.failed).possible ≡ false

-- each of them, in order
abbrev pub AreSetUp : List JobCase → List (Job Script) → Type 0
AreSetUp [] [] = Unit {0}
AreSetUp (opened_case ∷ job_cases) (job ∷ jobs) = IsSetUp opened_case job × AreSetUp job_cases jobs
AreSetUp [] (job ∷ jobs) = ⊥
AreSetUp (opened_case ∷ job_cases) [] = ⊥

-- the race of a scene
abbrev pub race_in : RaceScene → Race Script
race_in scene = record {
  answers = false;
  told = λ p. Some (talk_of p);
  faults = λ p. faults_of p.calls p.failed;
  trees = scene.local.worktrees;
  opening = opening_of scene;
}

-- The jobs of a scene raced, and the report tells the journal, the repository and the answers of that race: so it is what
-- the journal makes of the scene.
pub record IsTold (scene : RaceScene) (status : ℕ) (text : List ℕ) : Type 0 where
  pub jobs : List (Job Script)
  pub set_up : AreSetUp (map job_in scene.jobs) jobs
  pub raced : Raced Script
  pub ran : IsRaced (race_in scene) jobs raced
  pub report : IsRaceReport raced.journal (outline raced.repo) raced.answers status text
  pub replayed : race_of scene raced.journal raced.answers ≡ (status, text)

-- The scene's repository isn't closed: the report tells its first missing link.
pub record IsNotClosed (link : Missing) (status : ℕ) (text : List ℕ) : Type 0 where
  pub report : IsRefusedReport (errors.NotClosed link) status text

-- a repository that is closed is raced into
abbrev pub IsToldUnless : Option Missing → RaceScene → ℕ → List ℕ → Type 0
IsToldUnless None scene status text = IsTold scene status text
IsToldUnless (Some link) scene status text = IsNotClosed link status text

-- what is told of the race of a scene
pub record IsRaceOf (scene : RaceScene) (status : ℕ) (text : List ℕ) : Type 0 where
  pub is : IsToldUnless (slice_get (unclosed (held (opening_of scene))) 0) scene status text

-- the race of a scene; or where the bytes are none
abbrev pub IsSceneAnswer : Result RaceScene ℕ → ℕ → List ℕ → Type 0
IsSceneAnswer (Ok scene) status text = IsRaceOf scene status text
IsSceneAnswer (Err place) status text = Are 4 (malformed_line place) status text

-- The answer to all that is in the input, where the source tells it.
pub record IsInputAnswer (input : Option (List ℕ)) (status : ℕ) (text : List ℕ) : Type 0 where
  pub bytes : List ℕ
  pub read : IsAll input bytes
  pub answer : IsSceneAnswer (race_scene_of bytes) status text

-- the answer to the words
abbrev pub IsAnswerTo : Result (Unit {0}) ℕ → Option (List ℕ) → ℕ → List ℕ → Type 0
IsAnswerTo (Err number) input status text = Are 4 (malformed_word_line number) status text
IsAnswerTo (Ok asked) input status text = IsInputAnswer input status text

-- what these words are answered, with this input
pub record IsRaceAnswer (words : List (List ℕ)) (input : Option (List ℕ)) (status : ℕ) (text : List ℕ) : Type 0 where
  pub is : IsAnswerTo (race_asked words) input status text

-- whether the words ask for a race
abbrev pub asks : Result (Unit {0}) ℕ → Bool
asks (Ok asked) = true
asks (Err number) = false
