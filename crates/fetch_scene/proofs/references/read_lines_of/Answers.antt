use Rattle.std.proofs.Common.{◌∙◌}
use Rattle.fetch_scene.proofs.ReferenceLines.{goes, stops, ends}
use Rattle.fetch_scene.proofs.references.read_lines_of.Goals as goal

pub loop-line-preserved : goal.loop-line-preserved
loop-line-preserved c =
    goes c.args.hash c.loop-line.gathered c.add_line.new.gathered c.args.lines.now c.loop-line.line-index c.line-item.result _ c.loop-line-test.true c.line-item.is (rw c.if-not-branch.false at c.in_ok-add_line.ensures) c.loop-line.invariant

pub returns-then-not-branch : goal.returns-then-not-branch
returns-then-not-branch c =
    rw c.place.ensures
    (stops c.args.hash c.loop-line.gathered c.args.lines.now c.loop-line.line-index c.line-item.result _ c.loop-line-test.true c.line-item.is (rw c.if-not-branch.true at c.in_ok-add_line.ensures) c.loop-line.invariant)

pub returns : goal.returns
returns c = rw (c.from.ensures ∙ c.into_vec.ensures) (ends c.args.hash c.loop-line.gathered c.args.lines.now c.loop-line.line-index _ c.loop-line-test.false c.loop-line.invariant)
