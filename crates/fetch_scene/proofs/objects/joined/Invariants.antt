use Rattle.std.proofs.Common.{◌≡◌, take}
use Rattle.std.specs.List.{flat_map}
use Rattle.fetch_scene.specs.Scene.{bytes_in}
use Rattle.fetch_scene.proofs.objects.joined.Given as goal

abbrev pub invariant-loop-line : goal.invariant-loop-line
invariant-loop-line l = l.bytes.items ≡ flat_map bytes_in (take l.line-index l.payloads)
