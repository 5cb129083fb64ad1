use Rattle.std.proofs.Common.{ℕ, ◌+◌, List, length, Some, None, sym, ap, ◌∙◌}
use Rattle.fetch_specs.proofs.Joined.{behind_nothing, at_behind, place_behind}
use Rattle.fetch_specs.proofs.name.trouble_behind.Goals as goal

pub returns-then-is_pseudo : goal.returns-then-is_pseudo
returns-then-is_pseudo c = c.full_name_trouble.ensures ∙ behind_nothing c.args.category c.args.short.now (sym c.is_pseudo.ensures ∙ c.if-is_pseudo.true)

pub returns-then-is_at_sign : goal.returns-then-is_at_sign
returns-then-is_at_sign c = at_behind c.args.category c.args.short.now (sym c.is_pseudo.ensures ∙ c.if-is_pseudo.false) (sym c.is_at_sign.ensures ∙ c.if-is_at_sign.true)

pub returns-in-Some : goal.returns-in-Some
returns-in-Some c =
    ap (λ (p : List ℕ). Some (length p + c.in-Some.place)) c.prefix.ensures
    ∙ place_behind c.args.category c.args.short.now (Some c.in-Some.place) (sym c.is_pseudo.ensures ∙ c.if-is_pseudo.false) (sym c.is_at_sign.ensures ∙ c.if-is_at_sign.false) (sym c.name_trouble.ensures.place ∙ c.in-Some.is)

pub returns-in-None : goal.returns-in-None
returns-in-None c =
    place_behind c.args.category c.args.short.now None (sym c.is_pseudo.ensures ∙ c.if-is_pseudo.false) (sym c.is_at_sign.ensures ∙ c.if-is_at_sign.false) (sym c.name_trouble.ensures.place ∙ c.in-None.is)
