use Rattle.std.proofs.Common.{rules, ◌⊎◌, ◌↔◌, ap, subst}
use Rattle.fetch_shared.specs.Numbers.{Holds}
use Rattle.fetch_shared.specs.LockRule.{own}
use Rattle.fetch_shared.specs.Passes.{Holder}
use Rattle.fetch_shared.proofs.SeatSteps.{joins, settles}
use Rattle.fetch_shared.proofs.Back.{joined_held}
use Rattle.fetch_shared.proofs.shared.SharedRepository.join.Goals as goal

pub join_seat-requires : goal.join_seat-requires
join_seat-requires c = (search rules, search rules, search rules, search rules, joins _ _ _ _ _ c.left.invariant.stage c.right.invariant.stage)

pub load-requires : goal.load-requires
load-requires c = (search rules, search rules, settles _ _ _ _ _ _ (ap (λ m. m.0.stage) c.join_seat.ensures.2))

pub returns-clause-held : goal.returns-clause-held
returns-clause-held c = let both = c.join_seat.ensures.2 in let v = c.left.inside.seat.me.0 in let w = c.right.inside.seat.me.0 in λ n.
    let P : Holder × Holder → Type 0 = λ x. Holds (own c.load.new.seat.me.0) n ↔ (Holds x.0.held n ⊎ Holds x.1.held n) in
    subst P (λ i. (c.left.view_is i, c.right.view_is i)) (joined_held v w _ _ c.left.invariant.stage (ap (λ m. m.0) both) (c.load.ensures.2 _ _ (ap (λ m. m.0.stage) both)) n)
