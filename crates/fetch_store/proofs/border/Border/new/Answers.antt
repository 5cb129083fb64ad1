use Rattle.std.proofs.Common.{sym, subst}
use Rattle.std.specs.List.Sorted.{IsStrictlySortedBy}
use Rattle.fetch_base.specs.Id.{id_cmp}
use Rattle.fetch_store.proofs.border.Border.new.Goals as goal

pub invariant_of-result : goal.invariant_of-result
unfolding IsStrictlySortedBy
invariant_of-result c = subst (IsStrictlySortedBy id_cmp) (sym c.new.ensures.items) tt
