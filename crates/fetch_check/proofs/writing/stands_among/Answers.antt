use Rattle.std.proofs.Common.{subst, ◌∙◌}
use Rattle.std.specs.List.Sorted.{IsBinarySearchResult}
use Rattle.fetch_base.proofs.Orders.{cmp_is}
use Rattle.fetch_store.proofs.Borders.{searched_for}
use Rattle.fetch_check.proofs.writing.stands_among.Goals as goal

pub returns : goal.returns
returns c =
    let at = subst (λ cmp. IsBinarySearchResult (λ y. cmp y c.args.id.now) c.args.ids.now c.binary_search.result) cmp_is c.binary_search.ensures.position in
    c.is_ok.ensures.value ∙ searched_for c.args.ids.now c.args.id.now c.binary_search.result c.requires c.binary_search.ensures.bound at
