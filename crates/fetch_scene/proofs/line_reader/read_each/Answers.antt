use Rattle.std.proofs.Common.{sym, ◌∙◌}
use Rattle.fetch_scene.proofs.EachLine.{each_init, each_goes, each_stops, each_ends}
use Rattle.fetch_scene.proofs.line_reader.read_each.Goals as goal

pub loop-line-init : goal.loop-line-init
loop-line-init g c = rw c.new-items.ensures.items (each_init _ c.args.lines.now)

pub loop-line-preserved : goal.loop-line-preserved
loop-line-preserved g c =
    let gives = g.R.ReadsLine.gives c.args.reader.now in
    rw c.in_ok-push-in-Some.ensures.items
    (each_goes gives c.args.lines.now c.loop-line.line-index c.line-item.result c.in-Some.item c.loop-line.items.items _ c.loop-line-test.true c.line-item.is (sym c.in_ok-item.ensures ∙ c.in-Some.is) c.loop-line.invariant)

pub returns-in-None : goal.returns-in-None
returns-in-None g c =
    let gives = g.R.ReadsLine.gives c.args.reader.now in
    rw c.place.ensures
    (each_stops gives c.args.lines.now c.loop-line.line-index c.line-item.result c.loop-line.items.items _ c.loop-line-test.true c.line-item.is (sym c.in_ok-item.ensures ∙ c.in-None.is) c.loop-line.invariant)

pub returns : goal.returns
returns g c =
    let gives = g.R.ReadsLine.gives c.args.reader.now in
    rw c.from.ensures (each_ends gives c.args.lines.now c.loop-line.line-index c.loop-line.items.items _ c.loop-line-test.false c.loop-line.invariant)
