use Rattle.std.proofs.Common.{refl, ap, ◌∙◌}
use Rattle.fetch_journal.specs.Machine.Event.{Plan}
use Rattle.fetch_journal.specs.Shared.{plan_of}
use Rattle.fetch_shared.specs.LockRule.{resting}
use Rattle.fetch_shared.proofs.Turned.{looked}
use Rattle.fetch_shared.proofs.shared.SharedRepository.plan.Goals as goal

pub returns-clause-turn : goal.returns-clause-turn
returns-clause-turn g c =
    let v = c.pass.inside.seat.me.0 in let took = c.take_turn-state.ensures in
    let me = ap (λ m. m.0) c.give_back.ensures.turn ∙ ap (λ m. resting m.0) took.turn in
    looked (λ n. Plan) (λ n v. plan_of v c.args.map.now c.args.tags c.args.shallow.now) c.pass.inside.seat.table_id c.give_back.new.seat.table_id v c.give_back.new.seat.me.0 c.args.pass c.pass.view_is c.pass.inside.number c.pass.invariant.number_is c.take_turn-state.result
    c.pass.invariant.stage (c.give_back.ensures.table ∙ took.table) took.opening took.finds took.kept c.plan-answer.result me (λ n. refl) (λ n. refl) c.plan-answer.ensures.memory c.plan-answer.ensures.plan
