use Rattle.std.proofs.Common.{◌≡◌, sym, ap, subst, ◌∙◌}
use Rattle.std.specs.List.{dedup}
use Rattle.std.specs.List.Sorted.{IsSorted, IsStrictlySortedBy}
use Rattle.std.specs.Ordering.{eq_by_cmp}
use Rattle.std.specs.Cmp.{eq_by_cmp_equiv, Equal-is}
use Rattle.std.proofs.lemmas.List.Filters.{dedup_is}
use Rattle.std.proofs.lemmas.List.Kept.{IsStrictlySortedBy-dedup, Contains-dedup, Contains-from_dedup}
use Rattle.std.proofs.lemmas.List.Sorted.{Contains-permutation, IsPermutation-sym}
use Rattle.fetch_base.specs.Id.{id_cmp}
use Rattle.fetch_store.specs.Borders.{set_of, ids_of}
use Rattle.fetch_base.proofs.Ids.{id_cmp_total, id_cmp_exact}
use Rattle.fetch_base.proofs.Orders.{cmp_is, same_is, eq_is}
use Rattle.fetch_store.proofs.Borders.{same_sets, ids_of-set}
use Rattle.fetch_store.proofs.border.ascending.Goals as goal

pub returns-clause-rises : goal.returns-clause-rises
returns-clause-rises c =
    let sorted = subst (λ cmp. IsSorted cmp c.sort_unstable.new.self.items) cmp_is c.sort_unstable.ensures.sorted in
    let is = dedup_is _ _ _ c.dedup.ensures.filtered in
    subst (IsStrictlySortedBy id_cmp) (sym is) (IsStrictlySortedBy-dedup id_cmp_total eq_is c.sort_unstable.new.self.items sorted)

pub returns-clause-set : goal.returns-clause-set
returns-clause-set c =
    let moved = c.sort_unstable.ensures.permutation in
    let is : c.dedup.new.self.items ≡ dedup (eq_by_cmp id_cmp) c.sort_unstable.new.self.items =
    dedup_is _ _ _ c.dedup.ensures.filtered ∙ ap (λ same. dedup same c.sort_unstable.new.self.items) same_is in
    ap set_of is
    ∙ same_sets (dedup (eq_by_cmp id_cmp) c.sort_unstable.new.self.items) c.args.ids.items
    (λ q h. Contains-permutation _ _ q (IsPermutation-sym _ _ moved) (Contains-from_dedup (eq_by_cmp id_cmp) c.sort_unstable.new.self.items q h))
    (λ q h. Contains-dedup (eq_by_cmp_equiv id_cmp_total) (λ x y e. id_cmp_exact x y ((Equal-is (id_cmp x y)).0 e)) c.sort_unstable.new.self.items q (Contains-permutation _ _ q moved h))

pub returns-clause-each : goal.returns-clause-each
returns-clause-each c = sym (ids_of-set c.dedup.new.self.items (returns-clause-rises c)) ∙ ap ids_of (returns-clause-set c)
