-- A scene: a repository, the objects in it, a remote, and what the peer says.
use Rattle.std.specs.Prelude.{ℕ, ◌^◌, ◌==◌, nat_lt, List, [], ◌∷◌, length, codes, Option, Result, Ok, Err, unwrap_or, if◌then◌else◌}
use Rattle.std.specs.List.{flat_map}
use Rattle.std.specs.Option.{option_map, ok_or}
use Rattle.std.specs.Result.{result_ok}
use Rattle.fetch_base.specs.declared.id.Kind.{Kind}
use Rattle.fetch_store.specs.Stores.{Entries}
use Rattle.fetch_store.specs.Borders.{set_of}
use Rattle.fetch_pack.specs.Reading.{read}
use Rattle.fetch_scene.specs.declared.scene.Scene.{Scene}
use Rattle.fetch_scene.specs.declared.local.Local.{Local}
use Rattle.fetch_scene.specs.declared.remote_part.RemotePart.{RemotePart}
use Rattle.fetch_scene.specs.Gives.{◌>>=◌}
use Rattle.fetch_scene.specs.LineKinds.{border_of, worktree_of, tags_of, refspec_of}
use Rattle.fetch_scene.specs.SceneConfig.{config_of}
use Rattle.fetch_scene.specs.SceneHead.{head_of}
use Rattle.fetch_scene.specs.SceneLines.{Placed, Lines, value_of, payload_of, delimits, flushes, next, each_with, each_of, group_of}
use Rattle.fetch_scene.specs.SceneLines.{behind_group, place_of, lines_of}
use Rattle.fetch_scene.specs.SceneOptions.{option_of, options_of}
use Rattle.fetch_scene.specs.SceneRefs.{references_of}

-- the repository: its head, references, border, configuration and work trees, and a delimiter
unfoldable pub local_of : Lines → Result (Local × Lines) ℕ
local_of ls = do
  head ← head_of ls
  refs ← references_of head.0.hash head.1
  border ← each_with (codes "border ") (border_of head.0.hash) refs.1
  config ← config_of border.1
  worktrees ← each_with (codes "worktree ") worktree_of config.1
  divided ← next delimits worktrees.1
  Ok (record { head = head.0; refs = refs.0; border = set_of border.0; config = config.0; worktrees = worktrees.0 }, divided.1)

-- the payload of a line, or nothing
abbrev pub bytes_in : Placed → List ℕ
bytes_in p = unwrap_or (payload_of p.line) []

-- the objects of the pack that the payloads make
unfoldable pub objects_in : Kind → List Placed → Option Entries
objects_in hash payloads = option_map (λ pack. pack.objects) (result_ok (read hash (flat_map bytes_in payloads)))

-- The objects at the front, whatever follows. A pack that breaks is malformed at its first payload, or where it has none at the line after
-- it.
unfoldable pub pack_objects_of : Kind → Lines → Result (Entries × Lines) ℕ
pack_objects_of hash ls = do
  objects ← ok_or (objects_in hash (group_of payload_of ls)) (place_of ls)
  Ok (objects, behind_group payload_of ls)

-- the objects, and a delimiter
unfoldable pub objects_of : Kind → Lines → Result (Entries × Lines) ℕ
objects_of hash ls = do
  objects ← pack_objects_of hash ls
  divided ← next delimits objects.1
  Ok (objects.0, divided.1)

-- the remote: its address, refspecs, tags and further refspecs, the options, and a delimiter
unfoldable pub remote_of : Lines → Result (RemotePart × Lines) ℕ
remote_of ls = do
  address ← next (value_of (codes "remote ")) ls
  specs ← each_with (codes "fetch ") (refspec_of (codes "fetch ")) address.1
  tags ← next tags_of specs.1
  extra ← each_with (codes "extra ") (refspec_of (codes "extra ")) tags.1
  options ← each_with (codes "option ") option_of extra.1
  divided ← next delimits options.1
  Ok (record { address = address.0; specs = specs.0; tags = tags.0; extra = extra.0; options = options_of options.0 }, divided.1)

-- Nothing follows.
abbrev pub ends_in : ℕ → List Placed → ℕ → Result (Unit {0}) ℕ
ends_in len [] last = if last == len then Ok tt else Err last
ends_in len (p ∷ ps) last = Err p.place

-- the payloads at the front
unfoldable pub payloads_of : Lines → Result (List (List ℕ) × Lines) ℕ
payloads_of ls = do
  payloads ← each_of payload_of (group_of payload_of ls)
  Ok (payloads, behind_group payload_of ls)

-- a flush with nothing after it
unfoldable pub end_of : ℕ → Lines → Result (Unit {0}) ℕ
end_of len ls = do
  flushed ← next flushes ls
  ends_in len flushed.1.lines flushed.1.last

-- the peer's pieces, and the end
unfoldable pub pieces_of : ℕ → Lines → Result (List (List ℕ)) ℕ
pieces_of len ls = do
  pieces ← payloads_of ls
  ended ← end_of len pieces.1
  Ok pieces.0

-- the remote, and what its peer says
unfoldable pub talk_of : ℕ → Lines → Result (RemotePart × List (List ℕ)) ℕ
talk_of len ls = do
  remote ← remote_of ls
  pieces ← pieces_of len remote.1
  Ok (remote.0, pieces)

-- the scene of its parts
abbrev pub scene_with : Local → Entries → RemotePart → List (List ℕ) → Scene
scene_with local objects remote pieces = record {
  hash = local.head.hash;
  git_dir = local.head.git_dir;
  workdir = local.head.workdir;
  lenient = local.head.lenient;
  refs = local.refs;
  border = local.border;
  config = local.config;
  worktrees = local.worktrees;
  objects = objects;
  address = remote.address;
  specs = remote.specs;
  tags = remote.tags;
  extra = remote.extra;
  options = remote.options;
  pieces = pieces;
}

-- the repository of a scene
abbrev pub local_in : Scene → Local
local_in s = record {
  head = record { hash = s.hash; git_dir = s.git_dir; workdir = s.workdir; lenient = s.lenient };
  refs = s.refs;
  border = s.border;
  config = s.config;
  worktrees = s.worktrees;
}

-- and its remote
abbrev pub remote_in : Scene → RemotePart
remote_in s = record { address = s.address; specs = s.specs; tags = s.tags; extra = s.extra; options = s.options }

-- the scene that these lines are, or the place where they break its grammar
abbrev pub scene_in : ℕ → Lines → Result Scene ℕ
scene_in len ls = do
  local ← local_of ls
  objects ← objects_of local.0.head.hash local.1
  talk ← talk_of len objects.1
  Ok (scene_with local.0 objects.0 talk.0 talk.1)

-- the most bytes of a scene
abbrev pub limit : ℕ
limit = 2 ^ 30

-- the scene that the bytes are, or the place where they are none
unfoldable pub scene_of : List ℕ → Result Scene ℕ
scene_of bytes = if nat_lt limit (length bytes) then Err limit else scene_in (length bytes) (lines_of bytes)
