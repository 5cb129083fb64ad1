-- The references of a scene: no name comes twice.
use Rattle.std.specs.Prelude.{ℕ, List, [], ◌∷◌, ◌++◌, Bool, codes, Option, Some, None, Result, Ok, option_and_then, if◌then◌else◌}
use Rattle.std.specs.List.{list_any}
use Rattle.std.specs.Option.{ok_or}
use Rattle.std.specs.Str.{bytes_eq}
use Rattle.fetch_base.specs.declared.id.Kind.{Kind}
use Rattle.fetch_lines.specs.declared.lines.line.Line.{Line}
use Rattle.fetch_scene.specs.declared.references.Reference.{Reference}
use Rattle.fetch_scene.specs.Gives.{◌>>=◌}
use Rattle.fetch_scene.specs.LineKinds.{reference_of}
use Rattle.fetch_scene.specs.SceneLines.{Placed, Lines, value_of, group_of, behind_group}

-- whether a reference before has the name
abbrev pub has_name : List Reference → List ℕ → Bool
has_name before name = list_any (λ (r : Reference). bytes_eq name r.name) before

-- a reference, unless its name came before
abbrev pub if_new : List Reference → Reference → Option Reference
if_new before r = if has_name before r.name then None else Some r

-- the reference of a line, where none before has its name
unfoldable pub new_reference : Kind → List Reference → Line → Option Reference
new_reference hash before line = option_and_then (if_new before) (reference_of hash line)

-- those before, and one for each line
unfoldable pub references_behind : Kind → List Reference → List Placed → Result (List Reference) ℕ
references_behind hash before [] = Ok before
references_behind hash before (p ∷ ps) = do
  r ← ok_or (new_reference hash before p.line) p.place
  references_behind hash (before ++ r ∷ []) ps

-- the references, and the lines after them
unfoldable pub references_of : Kind → Lines → Result (List Reference × Lines) ℕ
references_of hash ls = do
  references ← references_behind hash [] (group_of (value_of (codes "ref ")) ls)
  Ok (references, behind_group (value_of (codes "ref ")) ls)
