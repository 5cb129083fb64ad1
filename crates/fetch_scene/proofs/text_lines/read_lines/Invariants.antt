use Rattle.std.proofs.Common.{◌-◌, length}
use Rattle.fetch_scene.proofs.TextLines.{IsLeft}
use Rattle.fetch_scene.proofs.text_lines.read_lines.Given as goal

abbrev pub invariant-lines : goal.invariant-lines
invariant-lines l = IsLeft l.bytes l.lines.items l.place

abbrev pub decreases-lines : goal.decreases-lines
decreases-lines l = length l.bytes - l.place
