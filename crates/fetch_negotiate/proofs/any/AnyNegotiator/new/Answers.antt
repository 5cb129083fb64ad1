use Rattle.std.proofs.Common.{ap, ◌∙◌}
use Rattle.std.specs.FinMap as map
use Rattle.fetch_base.specs.Id.{id_cmp}
use Rattle.fetch_negotiate.specs.Commits.{Known}
use Rattle.fetch_negotiate.proofs.any.AnyNegotiator.new.Goals as goal

pub returns-in_ok-consecutive-in-Consecutive-clause-unread : goal.returns-in_ok-consecutive-in-Consecutive-clause-unread
returns-in_ok-consecutive-in-Consecutive-clause-unread c = λ id. ap (λ (k : Known). map.get k id) c.in_ok-consecutive-in-Consecutive.ensures.known ∙ map.get-empty id_cmp id

pub returns-in_ok-skipping-in-Skipping-clause-unread : goal.returns-in_ok-skipping-in-Skipping-clause-unread
returns-in_ok-skipping-in-Skipping-clause-unread c = λ id. ap (λ (k : Known). map.get k id) c.in_ok-skipping-in-Skipping.ensures.known ∙ map.get-empty id_cmp id
