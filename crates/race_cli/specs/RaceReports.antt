-- The report of a race: its journal, the state that is left, and the jobs that were refused.
use Rattle.std.specs.Prelude.{◌≡◌, ◌≢◌, ℕ, ◌+◌, Bool, true, false, List, [], ◌∷◌, ◌++◌, codes, decimal, Result, Ok, Err, is_err}
use Rattle.std.specs.List.{flat_map, list_any}
use Rattle.fetch_store.specs.Borders.{ids_of}
use Rattle.fetch_remote.specs.declared.fetching.outcome.Outcome.{Outcome}
use Rattle.fetch_cli.specs.Report.{ref_lines}
use Rattle.fetch_cli.specs.ReportLines.{border_line, id_line, refused_line}
use Rattle.fetch_journal.specs.Replays.{Outline, outline, replay}
use Rattle.fetch_journal.specs.Shared.{is_memory}
use Rattle.fetch_journal.specs.declared.entry.Entry.{Entry}
use Rattle.fetch_journal.specs.declared.error.SharedError.{SharedError}
use Rattle.fetch_journal.specs.declared.error.SharedError.TheVariants as errors
use Rattle.race_cli.specs.JournalLines.{journal_lines}
use Rattle.race_cli.specs.RaceCases.{opening_of}
use Rattle.race_cli.specs.SharedTokens.{shared_token}
use Rattle.race_cli.specs.declared.scene.RaceScene.{RaceScene}

-- what a job was answered
abbrev pub Answer : Type 0
Answer = Result Outcome SharedError

-- the references, the border and the ids, each in ascending order
unfoldable pub outline_lines : Outline → List ℕ
outline_lines left = ref_lines left.refs.names ++ flat_map border_line (ids_of left.border) ++ flat_map id_line (ids_of left.ids)

-- ---- the jobs that were refused

-- the number of a job, and the token of its refusal
unfoldable pub numbered : ℕ → SharedError → List ℕ
numbered index e = decimal index ++ codes " " ++ shared_token e

-- the line of a job that was refused
abbrev pub refused_line_of : ℕ → Answer → List ℕ
refused_line_of index (Ok outcome) = []
refused_line_of index (Err e) = refused_line (numbered index e)

-- those of jobs from this number on
abbrev pub refused_lines : ℕ → List Answer → List ℕ
refused_lines index [] = []
refused_lines index (answer ∷ answers) = refused_line_of index answer ++ refused_lines (index + 1) answers

-- Some job was refused.
abbrev pub any_refused : List Answer → Bool
any_refused answers = list_any is_err answers

-- Memory ran out in a job.
abbrev pub is_out_of_memory : Answer → Bool
is_out_of_memory (Ok outcome) = false
is_out_of_memory (Err e) = is_memory e

-- Memory ran out in some job.
abbrev pub any_out_of_memory : List Answer → Bool
any_out_of_memory answers = list_any is_out_of_memory answers

-- ---- the report

-- `ok`, unless a job was refused
abbrev pub end_text : Bool → List ℕ
end_text true = []
end_text false = codes "ok\n"

-- the journal, the state, the jobs that were refused, and the end
unfoldable pub race_text : List Entry → Outline → List Answer → List ℕ
race_text journal left answers = journal_lines 0 journal ++ outline_lines left ++ refused_lines 0 answers ++ end_text (any_refused answers)

-- 1 where a job was refused
abbrev pub status_of : Bool → ℕ
status_of true = 1
status_of false = 0

-- the status, and the text
abbrev pub race_report : List Entry → Outline → List Answer → ℕ × List ℕ
race_report journal left answers = (status_of (any_refused answers), race_text journal left answers)

-- The status and the text are the report of a race with this journal, which left this and answered this; and memory ran out
-- in none of its jobs.
pub record IsRaceReport (journal : List Entry) (left : Outline) (answers : List Answer) (status : ℕ) (text : List ℕ) : Type 0 where
  pub is : race_report journal left answers ≡ (status, text)
  pub known : any_out_of_memory answers ≡ false

-- the status, and the text, of a race that was refused before any job began
abbrev pub refused_report : SharedError → ℕ × List ℕ
refused_report e = (1, refused_line (shared_token e))

-- The status and the text are those; and memory didn't run out.
pub record IsRefusedReport (e : SharedError) (status : ℕ) (text : List ℕ) : Type 0 where
  pub is : refused_report e ≡ (status, text)
  pub known : e ≢ errors.NoMemory

-- What a race leaves is what its journal makes of the scene's repository: so its report is a function of the scene, the
-- journal and the answers.
abbrev pub race_of : RaceScene → List Entry → List Answer → ℕ × List ℕ
race_of scene journal answers = race_report journal (replay (outline (opening_of scene)) journal) answers
