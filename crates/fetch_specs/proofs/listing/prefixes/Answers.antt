use Rattle.std.proofs.Common.{ℕ, Bool, cond, List, [], sym, ap, ◌∙◌}
use Rattle.std.specs.List.{flat_map}
use Rattle.fetch_specs.specs.Prefixes.{prefixes_of, put_all, spec_prefixes}
use Rattle.fetch_specs.proofs.listing.prefixes.Goals as goal

pub returns-clause-prefixes : goal.returns-clause-prefixes
unfolding prefixes_of
returns-clause-prefixes c =
    let asked : List (List ℕ) = flat_map spec_prefixes c.args.specs.now in
    c.in_ok-in_a_list.ensures ∙ c.in_ok-put_specs.ensures ∙ ap (λ (ts : List (List ℕ)). put_all ts asked) c.new-texts.ensures.empty
    ∙ sym (ap (λ (t : Bool). cond t [] (put_all [] asked)) (sym c.some_asks_for_all.ensures ∙ c.if-some_asks_for_all.false))
