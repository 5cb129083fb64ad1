use Rattle.std.proofs.Common.{◌≡◌, [], drop}
use Rattle.fetch_scene.specs.SceneRefs.{references_behind}
use Rattle.fetch_scene.proofs.references.read_lines_of.Given as goal

abbrev pub invariant-loop-line : goal.invariant-loop-line
invariant-loop-line l = references_behind l.hash l.gathered (drop l.line-index l.lines) ≡ references_behind l.hash [] l.lines
