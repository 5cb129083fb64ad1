-- The statuses of answers.
use Rattle.std.proofs.Common.{◌≡◌, ◌⊎◌, ℕ, ◌≤◌, Bool, true, false, List, Option, Some, None, Result, Ok, Err, ap, inl, inr, arith}
use Rattle.std.specs.Prelude.{slice_get}
use Rattle.fetch_store.specs.Missing.{unclosed}
use Rattle.fetch_store.specs.declared.missing.Missing.{Missing}
use Rattle.fetch_journal.specs.Machine.{held}
use Rattle.fetch_journal.specs.Replays.{Outline}
use Rattle.fetch_journal.specs.declared.entry.Entry.{Entry}
use Rattle.fetch_journal.specs.declared.error.SharedError.{SharedError}
use Rattle.fetch_cli.specs.Written.{IsAnswered}
use Rattle.race_cli.specs.RaceReports.{Answer, any_refused, status_of, IsRaceReport, IsRefusedReport}
use Rattle.race_cli.specs.RaceRun.{IsToldUnless, IsSceneAnswer, IsAnswerTo, IsRaceAnswer}
use Rattle.race_cli.specs.RaceScenes.{race_scene_of}
use Rattle.race_cli.specs.RaceWords.{race_asked}
use Rattle.race_cli.specs.RaceCases.{opening_of}
use Rattle.race_cli.specs.declared.scene.RaceScene.{RaceScene}

low_by : (b : Bool) (status : ℕ) → status_of b ≡ status → status ≤ 1
low_by true status is = omega (arith, is)
low_by false status is = omega (arith, is)

low_report : (journal : List Entry) (left : Outline) (answers : List Answer) (status : ℕ) (text : List ℕ) → IsRaceReport journal left answers status text → status ≤ 1
low_report journal left answers status text r = low_by (any_refused answers) status (ap (λ (x : ℕ × List ℕ). x.0) r.is)

low_refusal : (e : SharedError) (status : ℕ) (text : List ℕ) → IsRefusedReport e status text → status ≤ 1
low_refusal e status text r = let one : 1 ≡ status = ap (λ (x : ℕ × List ℕ). x.0) r.is in omega (arith, one)

low_race : (o : Option Missing) (scene : RaceScene) (status : ℕ) (text : List ℕ) → IsToldUnless o scene status text → status ≤ 1
low_race None scene status text told = low_report _ _ _ status text told.report
low_race (Some link) scene status text told = low_refusal _ status text told.report

of_scene : (found : Result RaceScene ℕ) (status : ℕ) (text : List ℕ) → IsSceneAnswer found status text → (status ≤ 1) ⊎ (status ≡ 4)
of_scene (Ok scene) status text told = inl (low_race (slice_get (unclosed (held (opening_of scene))) 0) scene status text told.is)
of_scene (Err place) status text told = inr told.0

of_words : (asked : Result (Unit {0}) ℕ) (input : Option (List ℕ)) (status : ℕ) (text : List ℕ) → IsAnswerTo asked input status text → (status ≤ 1) ⊎ (status ≡ 4)
of_words (Ok asked) input status text told = of_scene (race_scene_of told.bytes) status text told.answer
of_words (Err number) input status text told = inr told.0

-- none of those that tell a fault
pub known : (words : List (List ℕ)) (input : Option (List ℕ)) (status : ℕ) (text : List ℕ) → IsRaceAnswer words input status text → IsAnswered status
known words input status text told = of_words (race_asked words) input status text told.is
