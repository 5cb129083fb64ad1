use Rattle.std.proofs.Common.{rules, ◌≡◌, [], ◌∷◌, Some, ap, ◌∙◌}
use Rattle.atomic_table.specs.Table.{rest}
use Rattle.fetch_shared.specs.declared.view.Stage.TheVariants.{Turn}
use Rattle.fetch_shared.proofs.TurnSteps.{releases}
use Rattle.fetch_shared.proofs.shared.SharedRepository.give_back.Goals as goal

pub swap-requires : goal.swap-requires
swap-requires c = let a = c.args.state in let now = c.exchange.ensures.3 in
    let stage : c.exchange.new.seat.me.0.stage ≡ Turn a.journal = ap (λ m. m.0.stage) now ∙ c.requires.turn.0 in
    let carried : c.exchange.new.seat.me.1 ≡ (0, Some a) ∷ [] = ap (λ m. m.1) now ∙ ap (λ cs. (0, Some a) ∷ rest cs) c.requires.turn.1 in
    (search rules, search rules, releases _ _ _ _ a stage carried (search rules))
