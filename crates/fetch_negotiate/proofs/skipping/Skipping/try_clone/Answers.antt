use Rattle.std.proofs.Common.{◌≡◌, rules}
use Rattle.std.proofs.lemmas.List.Elements.{same_from_all_zip}
use Rattle.fetch_negotiate.proofs.Copying.{skipping}
use Rattle.fetch_negotiate.proofs.skipping.Skipping.try_clone.Goals as goal

pub invariant_of-result : goal.invariant_of-result
invariant_of-result c =
    let offered : c.in_ok-clone.field-0.items ≡ c.self.inside.offered.items = same_from_all_zip _ _ _ c.in_ok-clone.ensures.cases.0 (λ x y r. search rules) in
    record {
      skipping = skipping c.in_ok-try_clone.field-0 c.self.inside.walk c.in_ok-try_clone-2.field-0 c.self.inside.skips c.in_ok-try_clone.ensures c.in_ok-try_clone-2.ensures c.self.invariant.skipping;
      taken = rw (offered, c.in_ok-try_clone.ensures.frontier.taken) c.self.invariant.taken;
    }

pub returns : goal.returns
returns c =
    let offered : c.in_ok-clone.field-0.items ≡ c.self.inside.offered.items = same_from_all_zip _ _ _ c.in_ok-clone.ensures.cases.0 (λ x y r. search rules) in
    let same = c.in_ok-try_clone.ensures in
    rw (same.table, same.frontier.tips, same.frontier.candidates, same.border, same.frontier.taken, same.common.acknowledged, offered) c.self.view_is
