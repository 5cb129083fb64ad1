use Rattle.std.proofs.Common.{◌≡◌, Ok, refl, arith}
use Rattle.std.proofs.lemmas.Fn.{says_at}
use Rattle.std.proofs.lemmas.Grind.{common_steps}
use Rattle.fetch_base.proofs.list.List.try_clone_with.Goals as goal

pub loop-item-preserved : goal.loop-item-preserved
loop-item-preserved g c =
    let same : c.in_ok-copy.field-0 ≡ c.item-item.result = c.requires.copies c.item-item.result (Ok c.in_ok-copy.field-0) (says_at g.F.Fn c.in_ok-copy.ensures refl) in
    grind (arith, common_steps, same, c.in_ok-push.ensures)
