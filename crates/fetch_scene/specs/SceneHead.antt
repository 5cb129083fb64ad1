-- The head of a scene: `scene 1`, the hash, the Git directory, the work tree if there is one, and `lenient`.
use Rattle.std.specs.Prelude.{ℕ, List, Option, Some, None, Result, Ok, codes, option_and_then, if◌then◌else◌}
use Rattle.std.specs.Option.{is_some}
use Rattle.std.specs.Str.{bytes_eq}
use Rattle.fetch_base.specs.declared.id.Kind.{Kind}
use Rattle.fetch_base.specs.declared.id.Kind.TheVariants as kinds
use Rattle.fetch_lines.specs.declared.lines.line.Line.{Line}
use Rattle.fetch_scene.specs.declared.head.Head.{Head}
use Rattle.fetch_scene.specs.Gives.{◌>>=◌}
use Rattle.fetch_scene.specs.SceneLines.{Lines, says, value_of, next, next_if}

-- the hash of this name
unfoldable pub kind_named : List ℕ → Option Kind
kind_named name =
    if bytes_eq name (codes "sha1") then Some kinds.Sha1
    else if bytes_eq name (codes "sha256") then Some kinds.Sha256
    else None

-- the hash of a line
unfoldable pub hash_of : Line → Option Kind
hash_of line = option_and_then kind_named (value_of (codes "hash ") line)

-- the head, and the lines after it
unfoldable pub head_of : Lines → Result (Head × Lines) ℕ
head_of ls = do
  scene ← next (says (codes "scene 1")) ls
  hash ← next hash_of scene.1
  git_dir ← next (value_of (codes "git-dir ")) hash.1
  let workdir = next_if (value_of (codes "workdir ")) git_dir.1
  let lenient = next_if (says (codes "lenient")) workdir.1
  Ok (record { hash = hash.0; git_dir = git_dir.0; workdir = workdir.0; lenient = is_some lenient.0 }, lenient.1)
