use Rattle.std.proofs.Common.{◌≡◌, false, sym, subst}
use Rattle.std.specs.Prelude.{IfOk, IfSome}
use Rattle.fetch_negotiate.specs.Commits.{has}
use Rattle.fetch_negotiate.specs.Kept.{Kept, read_by}
use Rattle.fetch_negotiate.specs.Reading.{IsTold}
use Rattle.fetch_negotiate.specs.Walking.{so_far_in}
use Rattle.fetch_negotiate.proofs.Growing.{told_by, told_in}
use Rattle.fetch_negotiate.proofs.Nexts.{ok_stored, ok_fresh}
use Rattle.fetch_negotiate.proofs.consecutive.ConsecutiveNegotiator.next.Goals as goal

pub advance-requires : goal.advance-requires
advance-requires g c =
    let graph = g.O.Objects.graph c.args.objects.now in
    record {
      walk = c.self.invariant;
      told = told_in c.self.inside.walk.table graph (subst (λ (v : Kept). IsTold (read_by v.known) graph) (sym c.self.view_is) c.requires);
    }

pub returns-clause-stored : goal.returns-clause-stored
returns-clause-stored g c = ok_stored (g.O.Objects.graph c.args.objects.now) (so_far_in c.self.inside.walk) c.advance.result c.advance.ensures.next

pub returns-clause-fresh : goal.returns-clause-fresh
returns-clause-fresh g c =
    subst (λ (v : Kept). IfOk c.advance.result (λ next. IfSome next (λ id. has v.so_far.taken id ≡ false))) c.self.view_is
    (ok_fresh (g.O.Objects.graph c.args.objects.now) (so_far_in c.self.inside.walk) c.advance.result c.advance.ensures.next)

pub returns-clause-told : goal.returns-clause-told
returns-clause-told g c = told_by c.advance.new.walk.table (g.O.Objects.graph c.args.objects.now) c.advance.ensures.told
