use Rattle.std.proofs.Common.{sym}
use Rattle.fetch_lines.specs.LineViews.{line_of}
use Rattle.fetch_scene.proofs.TextLines.{goes, ends}
use Rattle.fetch_scene.proofs.text_lines.read_lines.Goals as goal

pub lines-preserved : goal.lines-preserved
lines-preserved c =
    rw (c.in_ok-push-in-Some.ensures.items, c.new.ensures)
    (goes c.lines.place c.in-Some.next c.args.bytes.now c.lines.lines.items (line_of c.in-Some.line) c.lines.invariant c.in-Some.ensures.within c.in-Some.ensures.next (sym c.in-Some.ensures.line))

pub returns-in-None : goal.returns-in-None
returns-in-None c = ends c.lines.place c.args.bytes.now c.lines.lines.items c.lines.invariant (sym c.in-None.ensures.line)
