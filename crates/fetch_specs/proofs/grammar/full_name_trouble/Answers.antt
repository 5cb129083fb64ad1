use Rattle.std.proofs.Common.{◌≡◌, ℕ, ◌<◌, false, eqb, List, [], ◌∷◌, length, max, Some, refl, sym, ap, ◌∙◌, arith}
use Rattle.std.specs.List.{prefix_len}
use Rattle.std.proofs.lemmas.Bool.{eqb-true}
use Rattle.std.proofs.lemmas.List.Sums.{prefix_len-le-length}
use Rattle.fetch_specs.specs.Categories.{refs}
use Rattle.fetch_specs.specs.Names.{is_capital, is_empty, full_name_trouble}
use Rattle.fetch_specs.specs.Scans.{common}
use Rattle.fetch_specs.proofs.FullNames.{under_refs, apart, apart_place, empty_place}
use Rattle.fetch_specs.proofs.grammar.full_name_trouble.Goals as goal

empty : (text : List ℕ) → length text ≡ 0 → text ≡ []
empty [] is = refl
empty (a ∷ text) is = absurd (omega arith)

filled : (text : List ℕ) → eqb (length text) 0 ≡ false → is_empty text ≡ false
filled [] is = is
filled (a ∷ text) is = refl

pub returns-then-starts_with : goal.returns-then-starts_with
unfolding refs
returns-then-starts_with c = c.name_trouble.ensures.place ∙ sym (under_refs c.args.text.now (sym c.starts_with.ensures.value ∙ c.if-starts_with.true))

pub returns-then-is_empty : goal.returns-then-is_empty
returns-then-is_empty c = sym (ap full_name_trouble (empty c.args.text.now (eqb-true _ _ (sym c.is_empty.ensures ∙ c.if-is_empty.true))) ∙ empty_place)

pub returns-then-capitals-text : goal.returns-then-capitals-text
unfolding refs
returns-then-capitals-text c =
    sym (apart c.args.text.now (sym c.starts_with.ensures.value ∙ c.if-starts_with.false) (sym c.capitals_at_front-capitals.ensures ∙ c.if-capitals-text.true)
    (filled c.args.text.now (sym c.is_empty.ensures ∙ c.if-is_empty.false)))

pub returns : goal.returns
unfolding refs
returns c =
    let text = c.args.text.now in
    let less : prefix_len is_capital text < length text = omega (arith, prefix_len-le-length is_capital text, c.capitals_at_front-capitals.ensures, c.if-capitals-text.false) in
    let found : c.max.result ≡ max (prefix_len is_capital text) (common refs text) = c.max.ensures ∙ ap (λ (n : ℕ). max n c.common.result) c.capitals_at_front-capitals.ensures ∙ ap (max (prefix_len is_capital text)) c.common.ensures.common in
    ap Some found ∙ sym (apart_place text (sym c.starts_with.ensures.value ∙ c.if-starts_with.false) less)
