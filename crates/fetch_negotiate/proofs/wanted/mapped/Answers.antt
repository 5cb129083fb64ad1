use Rattle.std.proofs.Common.{Some}
use Rattle.fetch_negotiate.specs.Wants.{want_in}
use Rattle.fetch_negotiate.proofs.Lines.{filtered_more, filtered_past}
use Rattle.fetch_negotiate.proofs.wanted.mapped.Goals as goal
use Rattle.fetch_negotiate.proofs.wanted.mapped.Goals.{in-Some+in_ok-push, in_default}

pub loop-mapping-preserved : goal.loop-mapping-preserved
loop-mapping-preserved g c =
    let f = want_in c.args.tags c.args.shallow.now (g.O.Objects.graph c.args.objects.now) c.args.extra.now in
    elim c.match-want.branch [
      | in-Some+in_ok-push w ↦
          rw (w.ids-is, w.in_ok-push.ensures.items)
          (filtered_more f c.args.mappings.now c.loop-mapping.mapping-index c.mapping-item.result c.mapping-item.result c.loop-mapping.ids.items (Some w.in-Some.id)
          c.loop-mapping-test.true c.mapping-item.is c.loop-mapping.invariant w.in-Some.ensures)
      | in_default w ↦
          rw w.ids-is
          (filtered_past f c.args.mappings.now c.loop-mapping.mapping-index c.mapping-item.result c.mapping-item.result c.loop-mapping.ids.items
          c.loop-mapping-test.true c.mapping-item.is c.loop-mapping.invariant w.in_default.ensures)
    ]
