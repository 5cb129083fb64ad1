use Rattle.std.proofs.Common.{List, sym, subst, ◌∙◌}
use Rattle.fetch_base.specs.declared.id.ObjectId.{ObjectId}
use Rattle.fetch_negotiate.specs.Reading.{Table, IsTold, read_in}
use Rattle.fetch_negotiate.specs.Sharing.{Covers}
use Rattle.fetch_negotiate.specs.Walking.{so_far_in}
use Rattle.fetch_negotiate.proofs.Handing.{pairs_shared, taken_shared}
use Rattle.fetch_negotiate.proofs.skipping.SkippingNegotiator.in_common.Goals as goal

pub invariant_of-self : goal.invariant_of-self
invariant_of-self g c =
    let w = c.self.inside.walk in
    let v = c.share.new.walk in
    let e = c.share.ensures in
    let i = c.self.invariant in
    record {
      skipping = record {
        walk = e.walk;
        paired = i.skipping.paired;
        handed = λ h told. i.skipping.handed h (subst (λ (t : Table). IsTold (read_in t) h) e.table told) ∙ pairs_shared h (so_far_in w) (so_far_in v) c.args.id.now c.share.result e.ok e.err;
      };
      taken = subst (λ (l : List ObjectId). Covers c.self.inside.offered.items l) (sym (taken_shared (so_far_in w) (so_far_in v) c.args.id.now c.share.result e.ok e.err)) i.taken;
    }
