use Rattle.std.proofs.Common.{◌≡◌, take}
use Rattle.fetch_scene.specs.SceneConfig.{text_of}
use Rattle.fetch_scene.proofs.configuration.joined.Given as goal

abbrev pub invariant-loop-line : goal.invariant-loop-line
invariant-loop-line l = l.bytes.items ≡ text_of (take l.line-index l.lines)
