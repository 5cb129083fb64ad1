-- What is read of a source as the scene of a race.
use Rattle.std.specs.Prelude.{◌≡◌, ℕ, List, Option, Result, Err, ⊤}
use Rattle.fetch_cli.specs.Io.{IsAll}
use Rattle.race_cli.specs.RaceScenes.{race_scene_of}
use Rattle.race_cli.specs.declared.input.RaceFault.{RaceFault}
use Rattle.race_cli.specs.declared.input.RaceFault.TheVariants as faults
use Rattle.race_cli.specs.declared.scene.RaceScene.{RaceScene}

-- All that is in the input, where the source tells it, is this scene, or none at this place.
pub record IsRaceInput (input : Option (List ℕ)) (found : Result RaceScene ℕ) : Type 0 where
  pub bytes : List ℕ
  pub read : IsAll input bytes
  pub is : race_scene_of bytes ≡ found

-- The place that is told is that of the input.
abbrev pub IsMalformedInput : Option (List ℕ) → RaceFault → Type 0
IsMalformedInput input (faults.Malformed place) = IsRaceInput input (Err place)
IsMalformedInput input faults.Unread = ⊤
IsMalformedInput input faults.NoMemory = ⊤
