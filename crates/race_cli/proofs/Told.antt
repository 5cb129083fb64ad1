-- A race is told by its journal.
use Rattle.std.proofs.Common.{◌≡◌, ℕ, List, sym, ap, ◌∙◌}
use Rattle.fetch_remote.specs.RepositoryValues.{RepositoryValue}
use Rattle.fetch_journal.specs.Replays.{Outline, outline, replay}
use Rattle.fetch_journal.specs.declared.entry.Entry.{Entry}
use Rattle.race_cli.specs.RaceReports.{Answer, race_report, race_of, IsRaceReport}
use Rattle.race_cli.specs.RaceCases.{opening_of}
use Rattle.race_cli.specs.declared.scene.RaceScene.{RaceScene}

pub told : (scene : RaceScene) (journal : List Entry) (left : RepositoryValue) (answers : List Answer) (status : ℕ) (text : List ℕ)
    → outline left ≡ replay (outline (opening_of scene)) journal → IsRaceReport journal (outline left) answers status text → race_of scene journal answers ≡ (status, text)
told scene journal left answers status text is report = ap (λ (v : Outline). race_report journal v answers) (sym is) ∙ report.is
