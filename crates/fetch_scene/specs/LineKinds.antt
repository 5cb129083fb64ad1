-- What each kind of line of a scene says.
use Rattle.std.specs.Prelude.{ℕ, ◌==◌, false, List, [], ◌∷◌, codes, Option, Some, None, if◌then◌else◌}
use Rattle.std.specs.Option.{option_map}
use Rattle.std.specs.Result.{result_ok}
use Rattle.std.specs.Str.{bytes_eq}
use Rattle.fetch_base.specs.declared.id.Kind.{Kind}
use Rattle.fetch_base.specs.declared.id.ObjectId.{ObjectId}
use Rattle.fetch_base.specs.Id.{id_in_hex}
use Rattle.fetch_base.specs.Scan.{◌>>=◌, split_first}
use Rattle.fetch_specs.specs.Names.{is_full_name, is_name}
use Rattle.fetch_specs.specs.Parses.{parsed}
use Rattle.fetch_specs.specs.Specs.{Spec}
use Rattle.fetch_specs.specs.declared.operation.Operation.TheVariants.{Fetch}
use Rattle.fetch_specs.specs.declared.tags.Tags.{Tags}
use Rattle.fetch_specs.specs.declared.tags.Tags.TheVariants as tags
use Rattle.fetch_refs.specs.declared.target.Target.{Target}
use Rattle.fetch_refs.specs.declared.target.Target.TheVariants as targets
use Rattle.fetch_lines.specs.declared.lines.line.Line.{Line}
use Rattle.fetch_scene.specs.declared.references.Reference.{Reference}
use Rattle.fetch_update.specs.declared.worktrees.Worktree.{Worktree}
use Rattle.fetch_scene.specs.SceneLines.{value_of}

-- a full name
abbrev pub full_name_in : List ℕ → Option (List ℕ)
full_name_in text = if is_full_name text then Some text else None

-- a name, full or short
abbrev pub partial_name_in : List ℕ → Option (List ℕ)
partial_name_in text = if is_name false text then Some text else None

-- a target that is a name
abbrev pub symbolic_in : List ℕ → Option Target
symbolic_in name = option_map targets.Symbolic (full_name_in name)

-- a target that is an id
abbrev pub object_in : Kind → List ℕ → Option Target
object_in hash digits = option_map targets.Object (id_in_hex hash digits)

-- a name after a `@`, or the digits of an id
unfoldable pub target_in : Kind → List ℕ → Option Target
target_in hash [] = None
target_in hash (c ∷ cs) = if c == 64 then symbolic_in cs else object_in hash (c ∷ cs)

-- `<target> SP <name>`
unfoldable pub reference_in : Kind → List ℕ → Option Reference
reference_in hash value = do
  parts ← split_first 32 value
  target ← target_in hash parts.0
  name ← full_name_in parts.1
  Some (record { name = name; target = target })

-- the reference of a line
unfoldable pub reference_of : Kind → Line → Option Reference
reference_of hash line = value_of (codes "ref ") line >>= reference_in hash

-- the border commit of a line
unfoldable pub border_of : Kind → Line → Option ObjectId
border_of hash line = value_of (codes "border ") line >>= id_in_hex hash

-- `<branch> SP <directory>`
unfoldable pub worktree_in : List ℕ → Option Worktree
worktree_in value = do
  parts ← split_first 32 value
  branch ← full_name_in parts.0
  Some (record { branch = branch; directory = parts.1 })

-- the work tree of a line
unfoldable pub worktree_of : Line → Option Worktree
worktree_of line = value_of (codes "worktree ") line >>= worktree_in

-- what this word says of tags
unfoldable pub tags_named : List ℕ → Option Tags
tags_named name =
    if bytes_eq name (codes "all") then Some tags.All
    else if bytes_eq name (codes "included") then Some tags.Included
    else if bytes_eq name (codes "none") then Some tags.None
    else None

-- what a line says of tags
unfoldable pub tags_of : Line → Option Tags
tags_of line = value_of (codes "tags ") line >>= tags_named

-- a refspec to fetch by
abbrev pub refspec_in : List ℕ → Option Spec
refspec_in text = result_ok (parsed Fetch text)

-- after a word
unfoldable pub refspec_of : List ℕ → Line → Option Spec
refspec_of word line = value_of word line >>= refspec_in
