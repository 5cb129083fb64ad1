-- The scene of a server: the repository and its objects as in a scene, and a flush with nothing after it.
use Rattle.std.specs.Prelude.{ℕ, nat_lt, List, length, Result, Ok, Err, if◌then◌else◌}
use Rattle.fetch_scene.specs.Gives.{◌>>=◌}
use Rattle.fetch_scene.specs.Scene.{local_of, pack_objects_of, end_of, limit}
use Rattle.fetch_scene.specs.SceneLines.{Lines, lines_of}
use Rattle.fetch_cli.specs.declared.program.server_scene.ServerScene.{ServerScene}

-- the scene that these lines are, of a text of this length, or the place where they are none
unfoldable pub server_in : ℕ → Lines → Result ServerScene ℕ
server_in len ls = do
  local ← local_of ls
  objects ← pack_objects_of local.0.head.hash local.1
  ended ← end_of len objects.1
  Ok (record { local = local.0; objects = objects.0 })

-- the scene that the bytes are, or the place where they are none
unfoldable pub server_scene_of : List ℕ → Result ServerScene ℕ
server_scene_of bytes = if nat_lt limit (length bytes) then Err limit else server_in (length bytes) (lines_of bytes)
