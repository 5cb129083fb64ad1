use Rattle.std.proofs.Common.{sym, ap, ◌∙◌, ◌∷◌, subst, ◌+◌, drop}
use Rattle.std.specs.Str.Lines.{lines}
use Rattle.fetch_config.specs.Pieces.{IsWithout}
use Rattle.fetch_config.proofs.FirstLine.{lines_at, one_line, lines_one, without_at, to_end, lines_nothing}
use Rattle.fetch_config.proofs.text.first_line.Goals as goal

pub returns-in-Some-clause-first : goal.returns-in-Some-clause-first
returns-in-Some-clause-first c =
    lines_at c.in-Some.len c.args.text.now c.in-Some.ensures.within c.in-Some.ensures.place
    ∙ ap (λ l. l ∷ lines (drop (c.in-Some.len + 1) c.args.text.now)) (sym c.without_carriage_return.ensures)
    ∙ ap (λ rest. c.without_carriage_return.result.now ∷ lines rest) (sym (to_end (c.in-Some.len + 1) c.args.text.now))

pub returns-in-Some-clause-no_feed : goal.returns-in-Some-clause-no_feed
returns-in-Some-clause-no_feed c = subst (IsWithout 10) (sym c.without_carriage_return.ensures) (without_at c.in-Some.len c.args.text.now c.in-Some.ensures.place)

pub returns-in-None-clause-first : goal.returns-in-None-clause-first
returns-in-None-clause-first c =
    lines_one c.args.text.now c.requires (one_line c.args.text.now c.in-None.ensures.place) ∙ ap (λ ls. c.args.text.now ∷ ls) (sym (lines_nothing c.args.text.now))

pub returns-in-None-clause-no_feed : goal.returns-in-None-clause-no_feed
returns-in-None-clause-no_feed c = (one_line c.args.text.now c.in-None.ensures.place).no_feed
