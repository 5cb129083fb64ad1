-- What is found in the repository of a server scene.
use Rattle.std.specs.Prelude.{◌≡◌, ℕ, List}
use Rattle.fetch_store.specs.Closed.{holding}
use Rattle.fetch_remote.specs.Repositories.{State}
use Rattle.fetch_check.specs.Finding.{AreFindings}
use Rattle.fetch_check.specs.Telling.{findings_status, findings_text}
use Rattle.fetch_check.specs.declared.findings.Findings.{Findings}
use Rattle.fetch_cli.specs.Report.{found_in}
use Rattle.fetch_cli.specs.declared.program.server_scene.ServerScene.{ServerScene}

-- the repository that a server scene says
abbrev pub repository_of : ServerScene → State
repository_of s = found_in s.local.head.hash s.objects s.local.border s.local.refs

-- all that is found in a repository
abbrev pub AreFoundIn : State → Findings → Type 0
AreFoundIn s findings = AreFindings s.refs.names (holding s.objects s.border) findings

-- The status and the text are those of all that is found in the repository of the scene.
pub record IsChecked (s : ServerScene) (status : ℕ) (text : List ℕ) : Type 0 where
  pub findings : Findings
  pub found : AreFoundIn (repository_of s) findings
  pub status_is : status ≡ findings_status findings
  pub text_is : text ≡ findings_text findings
