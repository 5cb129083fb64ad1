use Rattle.std.proofs.Common.{rules}
use Rattle.std.proofs.lemmas.List.Elements.{same_from_all_zip}
use Rattle.fetch_negotiate.proofs.skips.Skips.try_clone.Goals as goal

pub returns : goal.returns
returns c = record {
  handed = same_from_all_zip _ _ _ c.in_ok-clone.ensures.cases.0 (λ x y r. search rules);
  entered = search rules;
  pairs = same_from_all_zip _ _ _ c.in_ok-clone-2.ensures.cases (λ x y r. search rules);
}
