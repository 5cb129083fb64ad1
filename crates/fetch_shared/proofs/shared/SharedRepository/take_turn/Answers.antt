use Rattle.std.proofs.Common.{rules, ◌≡◌, ◌∷◌, Some, sym, ap, ◌∙◌}
use Rattle.atomic_table.specs.Table.{rest}
use Rattle.fetch_shared.specs.declared.view.Stage.TheVariants.{Turn}
use Rattle.fetch_shared.proofs.TurnSteps.{tries, loads}
use Rattle.fetch_shared.proofs.shared.SharedRepository.take_turn.Goals as goal

pub compare_exchange-requires : goal.compare_exchange-requires
compare_exchange-requires g c = (search rules, search rules, tries _ _ _ _ (ap (λ m. m.0.stage) c.loop.invariant.0 ∙ c.requires.rests.0))

pub exchange-requires : goal.exchange-requires
exchange-requires g c = let t = c.compare_exchange.ensures.2.0 c.if-compare_exchange-eq0.true in let a = t.0 in
    let carried : c.compare_exchange.new.seat.me.1 ≡ (0, Some a) ∷ c.loop.seat.me.1 = ap (λ m. m.1) t.1 in
    (search rules, (Some a, carried ∙ ap (λ cs. (0, Some a) ∷ cs) (sym (ap rest carried))))

pub load-requires : goal.load-requires
load-requires g c = let t = c.compare_exchange.ensures.2.0 c.if-compare_exchange-eq0.true in let a = t.0 in
    let stage : c.exchange.new.seat.me.0.stage ≡ Turn a.journal = ap (λ m. m.0.stage) c.exchange.ensures.3 ∙ ap (λ m. m.0.stage) t.1 in
    (search rules, search rules, loads _ _ _ _ a.journal stage)
