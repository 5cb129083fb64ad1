use Rattle.std.proofs.Common.{◌≡◌, drop}
use Rattle.fetch_scene.specs.SceneLines.{each_of}
use Rattle.fetch_scene.proofs.EachLine.{behind}
use Rattle.fetch_scene.proofs.line_reader.read_each.Given as goal

abbrev pub invariant-loop-line : goal.invariant-loop-line
invariant-loop-line g l = behind l.items.items (each_of (g.R.ReadsLine.gives l.reader) (drop l.line-index l.lines)) ≡ each_of (g.R.ReadsLine.gives l.reader) l.lines
