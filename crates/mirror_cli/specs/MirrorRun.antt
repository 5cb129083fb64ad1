-- What the program writes of a mirror, and its status.
use Rattle.std.specs.Prelude.{◌≡◌, ◌≢◌, ◌⊎◌, ℕ, Bool, true, false, List, Option, Result, Ok, Err}
use Rattle.fetch_refs.specs.declared.log.Signature.{Signature}
use Rattle.fetch_remote.specs.Repositories.{State}
use Rattle.fetch_remote.specs.RepositoryValues.{RepositoryValue}
use Rattle.fetch_cli.specs.Checks.{repository_of}
use Rattle.fetch_cli.specs.Io.{IsAll}
use Rattle.fetch_cli.specs.Report.{committer}
use Rattle.fetch_cli.specs.ReportLines.{malformed_line, malformed_word_line, refused_line}
use Rattle.fetch_cli.specs.Run.{Are}
use Rattle.fetch_cli.specs.ServerScenes.{server_scene_of}
use Rattle.fetch_cli.specs.declared.program.server_scene.ServerScene.{ServerScene}
use Rattle.fetch_serve.specs.Served.{Data}
use Rattle.fetch_journal.specs.declared.entry.Entry.{Entry}
use Rattle.fetch_mirror.specs.Copying.{IsCopied, IsUncopied}
use Rattle.fetch_mirror.specs.Mirrors.{IsMirrored}
use Rattle.fetch_mirror.specs.declared.error.MirrorError.{MirrorError}
use Rattle.fetch_mirror.specs.declared.error.MirrorError.TheVariants as errors
use Rattle.fetch_mirror.specs.declared.options.MirrorOptions.{MirrorOptions}
use Rattle.fetch_mirror.specs.declared.options.Mirrored.{Mirrored}
use Rattle.mirror_cli.specs.MirrorReports.{IsReportOf, mirror_text}
use Rattle.mirror_cli.specs.MirrorTokens.{mirror_token}
use Rattle.mirror_cli.specs.MirrorWords.{mirror_asked}

-- what is served of a repository
abbrev pub served_in : State → Data
served_in s = record { hash = s.hash; objects = s.objects; names = s.refs.names }

-- what the repository of a server scene serves
abbrev pub data_in : ServerScene → Data
data_in s = served_in (repository_of s)

-- the most bytes of a reply
abbrev pub reply_bound : ℕ
reply_bound = 268435456

-- how a repository is mirrored
abbrev pub mirror_options : ℕ → Signature → MirrorOptions
mirror_options workers who = record { workers = workers; committer = who; max_reply_bytes = reply_bound }

-- what is told of a mirror, or of why there is none; of out of memory nothing is told
abbrev pub IsTold : Result Mirrored MirrorError → ℕ → List ℕ → Type 0
IsTold (Ok m) status text = Are 0 (mirror_text m.repo.state) status text
IsTold (Err e) status text = (e ≢ errors.NoMemory) × Are 1 (refused_line (mirror_token e)) status text

-- The repository was mirrored, and the report tells what the mirror holds: the one report of its repository's mirror.
pub record TellsMirror (workers : ℕ) (s : ServerScene) (status : ℕ) (text : List ℕ) : Type 0 where
  pub repo : RepositoryValue
  pub journal : List Entry
  pub copied : IsCopied (data_in s) committer workers reply_bound repo journal
  pub mirrored : IsMirrored (data_in s) workers committer journal repo
  pub report : Are 0 (mirror_text repo.state) status text
  pub exact : IsReportOf (data_in s) text

-- It wasn't, and the report tells why.
pub record TellsRefusal (workers : ℕ) (s : ServerScene) (status : ℕ) (text : List ℕ) : Type 0 where
  pub cause : MirrorError
  pub uncopied : IsUncopied (data_in s) (repository_of s).border committer workers reply_bound cause
  pub known : cause ≢ errors.NoMemory
  pub report : Are 1 (refused_line (mirror_token cause)) status text

-- what is told of the mirror of a scene by so many workers
pub record IsMirrorOf (workers : ℕ) (s : ServerScene) (status : ℕ) (text : List ℕ) : Type 0 where
  pub is : TellsMirror workers s status text ⊎ TellsRefusal workers s status text

-- the mirror of a scene; or where the bytes are none
abbrev pub IsSceneAnswer : ℕ → Result ServerScene ℕ → ℕ → List ℕ → Type 0
IsSceneAnswer workers (Ok s) status text = IsMirrorOf workers s status text
IsSceneAnswer workers (Err place) status text = Are 4 (malformed_line place) status text

-- The answer to all that is in the input, where the source tells it.
pub record IsInputAnswer (workers : ℕ) (input : Option (List ℕ)) (status : ℕ) (text : List ℕ) : Type 0 where
  pub bytes : List ℕ
  pub read : IsAll input bytes
  pub answer : IsSceneAnswer workers (server_scene_of bytes) status text

-- the answer to the words
abbrev pub IsAnswerTo : Result ℕ ℕ → Option (List ℕ) → ℕ → List ℕ → Type 0
IsAnswerTo (Err number) input status text = Are 4 (malformed_word_line number) status text
IsAnswerTo (Ok workers) input status text = IsInputAnswer workers input status text

-- what these words are answered, with this input
pub record IsMirrorAnswer (words : List (List ℕ)) (input : Option (List ℕ)) (status : ℕ) (text : List ℕ) : Type 0 where
  pub is : IsAnswerTo (mirror_asked words) input status text

-- whether the words ask for a mirror
abbrev pub asks : Result ℕ ℕ → Bool
asks (Ok workers) = true
asks (Err number) = false
