use Rattle.std.proofs.Common.{◌∙◌}
use Rattle.fetch_negotiate.specs.Walking.{so_far_in}
use Rattle.fetch_negotiate.proofs.Handing.{pairs_started, covers_nothing}
use Rattle.fetch_negotiate.proofs.skipping.Skipping.new.Goals as goal

pub invariant_of-result : goal.invariant_of-result
invariant_of-result c =
    let w = c.in_ok-new.field-0 in
    record {
      skipping = record {
        walk = c.in_ok-new.ensures.walk;
        paired = c.in_ok-new-2.ensures.paired;
        handed = λ g told. c.in_ok-new-2.ensures.handed ∙ pairs_started g (so_far_in w) c.args.tips.now c.args.border.now c.in_ok-new.ensures.so_far;
      };
      taken = covers_nothing c.new-3.result.items w.frontier.taken.items c.new-3.ensures.items;
    }
