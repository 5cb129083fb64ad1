use Rattle.std.proofs.Common.{Bool, not, cond, ◌∷◌, ◌++◌, [], ap, ◌∙◌}
use Rattle.fetch_store.proofs.Marking.{read_as}
use Rattle.fetch_store.proofs.reach.mark.Goals as goal

pub returns-clause-places : goal.returns-clause-places
returns-clause-places c =
    let places = c.args.found.now.places.items in
    let place = c.args.place in
    c.in_ok-push_if.ensures ∙ ap (λ (t : Bool). cond (not t) (places ++ place ∷ []) places) (read_as c.args.found.now.marks.items place c.index.result.now _ c.requires c.index.ensures)
