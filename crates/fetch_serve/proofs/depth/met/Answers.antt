use Rattle.std.proofs.Common.{◌≡◌, ◌<◌, ◌++◌, ◌∷◌, [], cond, filter, length, get_or, sym, ap, ◌∙◌, arith}
use Rattle.std.specs.FinSet as set
use Rattle.fetch_base.specs.declared.id.ObjectId.TheVariants.{Sha1}
use Rattle.fetch_serve.proofs.Collecting.{kept_more}
use Rattle.fetch_serve.proofs.depth.met.Goals as goal
use Rattle.fetch_serve.proofs.depth.met.Goals.{then-contains+in_ok-push, else-contains}

pub loop-id-preserved : goal.loop-id-preserved
loop-id-preserved c =
    let border = c.args.border.now in
    let ids = c.args.ids.now in
    let i = c.loop-id.id-index in
    let none = Sha1 [] in
    let id = get_or ids i none in
    let lt : i < length ids = omega (arith, c.loop-id-test.true) in
    let now : c.if-contains.found ≡ cond (set.contains border id) (c.loop-id.found ++ id ∷ []) c.loop-id.found =
    elim c.if-contains.branch [
      | then-contains+in_ok-push w ↦ w.found-is ∙ w.in_ok-push.ensures.ok ∙ sym (ap (λ b. cond b (c.loop-id.found ++ id ∷ []) c.loop-id.found) (sym c.contains.ensures ∙ w.if-contains.true))
      | else-contains w ↦ w.found-is ∙ sym (ap (λ b. cond b (c.loop-id.found ++ id ∷ []) c.loop-id.found) (sym c.contains.ensures ∙ w.if-contains.false))
    ] in
    kept_more (set.contains border) ids i none c.loop-id.found c.if-contains.found (filter (set.contains border) ids) lt c.loop-id.invariant now
