-- The scene of a race: the repository and its objects as in a scene, then the jobs, and a flush with nothing behind it.
use Rattle.std.specs.Prelude.{ℕ, nat_lt, List, [], ◌∷◌, length, Result, Ok, Err, if◌then◌else◌}
use Rattle.fetch_scene.specs.Gives.{◌>>=◌}
use Rattle.fetch_scene.specs.Scene.{local_of, objects_of, end_of, limit, local_in, remote_in}
use Rattle.fetch_scene.specs.SceneLines.{Lines, lines_of}
use Rattle.fetch_scene.specs.declared.scene.Scene.{Scene}
use Rattle.race_cli.specs.Jobs.{jobs_of}
use Rattle.race_cli.specs.declared.scene.RaceScene.{RaceScene}

-- the scene that these lines are, of a text of this length, or the place where they are none
unfoldable pub race_in : ℕ → Lines → Result RaceScene ℕ
race_in len ls = do
  local ← local_of ls
  objects ← objects_of local.0.head.hash local.1
  jobs ← jobs_of objects.1
  ended ← end_of len jobs.1
  Ok (record { local = local.0; objects = objects.0; jobs = jobs.0 })

-- the scene that the bytes are, or the place where they are none
unfoldable pub race_scene_of : List ℕ → Result RaceScene ℕ
race_scene_of bytes = if nat_lt limit (length bytes) then Err limit else race_in (length bytes) (lines_of bytes)

-- a scene, as the scene of a race of one job
abbrev pub alone : Scene → RaceScene
alone s = record { local = local_in s; objects = s.objects; jobs = record { remote = remote_in s; pieces = s.pieces } ∷ [] }
