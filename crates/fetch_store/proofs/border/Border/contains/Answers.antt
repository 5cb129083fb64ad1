use Rattle.std.proofs.Common.{sym, ap, subst, ◌∙◌}
use Rattle.std.specs.List.Sorted.{IsStrictlySortedBy, IsBinarySearchResult}
use Rattle.std.specs.FinSet as set
use Rattle.fetch_base.specs.Id.{id_cmp}
use Rattle.fetch_base.proofs.Ids.{id_cmp_total}
use Rattle.fetch_base.proofs.Orders.{cmp_is}
use Rattle.fetch_store.proofs.Borders.{named, searched_for}
use Rattle.fetch_store.proofs.border.Border.contains.Goals as goal

pub returns : goal.returns
returns c =
    let q = c.args.id.now in
    let rise = subst (IsStrictlySortedBy id_cmp) (sym c.as_slice.ensures.value) c.self.invariant in
    let at = subst (λ cmp. IsBinarySearchResult (λ y. cmp y q) c.as_slice.result.now c.binary_search.result) cmp_is c.binary_search.ensures.position in
    c.is_ok.ensures.value ∙ searched_for c.as_slice.result.now q c.binary_search.result rise c.binary_search.ensures.bound at
    ∙ ap (named q) c.as_slice.ensures.value ∙ sym (set.contains-from_list id_cmp_total c.self.inside.ids.items q) ∙ ap (λ s. set.contains s q) c.self.view_is
