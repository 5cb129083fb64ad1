use Rattle.std.proofs.Common.{sym}
use Rattle.fetch_negotiate.proofs.Finding.{gains, gains_grows, gains_told, not_read}
use Rattle.fetch_negotiate.specs.Reading.{read_in}
use Rattle.fetch_negotiate.proofs.commits.read.Goals as goal

pub returns-clause-grows : goal.returns-clause-grows
returns-clause-grows g c =
    let u = c.in_ok-insert.ensures.updates in
    gains_grows c.args.table.now c.insert.new.self c.args.id.now c.in_ok-found.found (gains c.args.table.now c.insert.new.self c.args.id.now c.in_ok-found.found u) (not_read (read_in c.args.table.now c.args.id.now) (sym c.in_default.ensures))

pub returns-clause-told : goal.returns-clause-told
returns-clause-told g c =
    let u = c.in_ok-insert.ensures.updates in
    gains_told c.args.table.now c.insert.new.self c.args.id.now c.in_ok-found.found (g.O.Objects.graph c.args.objects.now) (gains c.args.table.now c.insert.new.self c.args.id.now c.in_ok-found.found u) c.in_ok-found.ensures c.requires
