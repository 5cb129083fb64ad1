use Rattle.std.proofs.Common.{rules, ◌≡◌, [], ◌∷◌, ◌++◌, Some, sym, ap, ◌∙◌}
use Rattle.atomic_table.specs.Table.{rest}
use Rattle.fetch_shared.specs.declared.view.Stage.TheVariants.{Turn}
use Rattle.fetch_shared.proofs.TurnSteps.{records, releases}
use Rattle.fetch_shared.proofs.shared.SharedRepository.record.Goals as goal

pub fetch_add-requires : goal.fetch_add-requires
fetch_add-requires c = let a = c.args.state in let now = c.exchange.ensures.3 in let m = c.exchange.new.seat.me in
    let stage : m.0.stage ≡ Turn m.0.front = ap (λ m. m.0.stage) now ∙ (c.requires.turn.0 ∙ ap (λ m. Turn m.0.front) (sym now)) in
    let carried : m.1 ≡ (0, Some a) ∷ [] = ap (λ m. m.1) now ∙ ap (λ cs. (0, Some a) ∷ rest cs) c.requires.turn.1 in
    (search rules, search rules, let g = c.requires.grown in records _ _ _ _ a g.0 stage carried (g.2 ∙ ap (λ m. m.0.front ++ g.0 ∷ []) (sym now)) (g.1 ∙ ap (λ m. m.0.number) (sym now)) (search rules))

pub swap-requires : goal.swap-requires
swap-requires c = let a = c.args.state in
    let carried : c.exchange.new.seat.me.1 ≡ (0, Some a) ∷ [] = ap (λ m. m.1) c.exchange.ensures.3 ∙ ap (λ cs. (0, Some a) ∷ rest cs) c.requires.turn.1 in
    let now = (c.fetch_add.ensures.2 a carried).0 in
    (search rules, search rules, releases _ _ _ _ a (ap (λ m. m.0.stage) now) (ap (λ m. m.1) now ∙ carried) (search rules))
