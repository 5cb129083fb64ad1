use Rattle.std.proofs.Common.{refl}
use Rattle.fetch_negotiate.specs.Reading.{links_at, read_in}
use Rattle.fetch_negotiate.proofs.Handing.{ok_parents, walk_grown}
use Rattle.fetch_negotiate.proofs.skipping.has_parents.Goals as goal

pub returns-clause-stays : goal.returns-clause-stays
returns-clause-stays g c =
    let e = c.any_stored.ensures in
    record { walk = walk_grown c.args.walk.now c.any_stored.new.table e.grows c.requires.over.walk; told = e.told; grows = e.grows; so_far = refl }

pub returns-clause-has : goal.returns-clause-has
returns-clause-has g c =
    let k = read_in c.args.walk.now.table in
    ok_parents k (read_in c.any_stored.new.table) c.args.walk.now.border c.args.id.now (links_at k c.args.walk.now.border c.args.id.now) c.any_stored.result c.any_stored.ensures.grows c.requires.read refl c.any_stored.ensures.any
