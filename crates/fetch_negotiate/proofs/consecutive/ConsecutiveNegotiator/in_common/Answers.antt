use Rattle.std.proofs.Common.{sym, subst}
use Rattle.fetch_negotiate.specs.Kept.{Kept, read_by}
use Rattle.fetch_negotiate.specs.Reading.{Table, IsTold}
use Rattle.fetch_negotiate.specs.Walking.{known_in}
use Rattle.fetch_negotiate.proofs.consecutive.ConsecutiveNegotiator.in_common.Goals as goal

pub returns-clause-told : goal.returns-clause-told
returns-clause-told g c =
    let graph = g.O.Objects.graph c.args._objects.now in
    subst (λ (t : Table). IsTold (read_by (known_in t)) graph) (sym c.share.ensures.table) (subst (λ (v : Kept). IsTold (read_by v.known) graph) (sym c.self.view_is) c.requires)
