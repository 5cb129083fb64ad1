use Rattle.std.proofs.Common.{rules, sym, ap, subst, ◌∙◌}
use Rattle.fetch_shared.specs.declared.view.View.{View}
use Rattle.fetch_shared.specs.Numbers.{Holds}
use Rattle.fetch_journal.specs.Shared.{SharedValue}
use Rattle.fetch_shared.specs.LockRule.{own}
use Rattle.fetch_shared.proofs.Starts.{starts, holds_all}
use Rattle.fetch_shared.proofs.shared.SharedRepository.new.Goals as goal

pub new-requires-2 : goal.new-requires-2
new-requires-2 c =
    starts c.of-opening.result.value c.in_ok-state.state c.push.new.self.items (search rules)
    (ap (λ (s : SharedValue). s.journal) c.in_ok-state.ensures.opened) (ap (λ (s : SharedValue). s.opening) c.in_ok-state.ensures.opened ∙ sym c.of-opening.ensures)

pub returns-clause-all : goal.returns-clause-all
returns-clause-all c n low = subst (λ (u : View). Holds (own u) n) (sym (ap (λ m. m.0) c.in-Ok-new.ensures.ok.4)) (holds_all c.of-opening.result.value n low)
