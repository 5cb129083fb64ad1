use Rattle.std.proofs.Common.{[], sym, ap, subst, ◌∙◌}
use Rattle.fetch_store.specs.Collisions.{HasDistinctIds}
use Rattle.fetch_pack.specs.Reading.{distinct}
use Rattle.fetch_pack.proofs.Keeping.{all_new}
use Rattle.fetch_pack.proofs.kept.distinct.Goals as goal

pub returns-then-apart : goal.returns-then-apart
returns-then-apart c =
    let es = c.in_ok-entries.entries.items in
    let apart = subst HasDistinctIds c.as_slice.ensures.value (c.in_ok-apart.ensures c.if-apart.true) in
    ap distinct (sym c.in_ok-entries.ensures) ∙ all_new [] es apart

pub returns : goal.returns
returns c = rw (← c.in_ok-entries.ensures) c.first_of_each.ensures
