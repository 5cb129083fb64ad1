use Rattle.std.proofs.Common.{sym, subst, ◌∙◌}
use Rattle.std.specs.List.Sorted.{IsStrictlySortedBy}
use Rattle.fetch_base.specs.Id.{id_cmp}
use Rattle.fetch_serve.specs.Parts.{held_by}
use Rattle.fetch_serve.proofs.Kept.{kept_rises}
use Rattle.fetch_serve.proofs.depth.decided.Goals as goal

pub moved-requires : goal.moved-requires
moved-requires c =
    subst (IsStrictlySortedBy id_cmp) (sym (c.as_slice.ensures ∙ c.in_ok-kept.ensures)) (kept_rises (held_by c.args.parts) c.args.asked.now c.args.asked.now.depth)

pub moved-requires-2 : goal.moved-requires-2
moved-requires-2 c =
    subst (IsStrictlySortedBy id_cmp) (sym (c.as_slice-2.ensures ∙ c.in_ok-kept.ensures)) (kept_rises (held_by c.args.parts) c.args.asked.now c.args.asked.now.depth)
