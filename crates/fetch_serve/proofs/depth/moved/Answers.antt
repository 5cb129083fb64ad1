use Rattle.std.proofs.Common.{◌≡◌, ◌<◌, ◌++◌, ◌∷◌, [], cond, length, get_or, sym, ap, ◌∙◌, arith}
use Rattle.fetch_store.specs.Graph.{graph_of}
use Rattle.fetch_base.specs.declared.id.ObjectId.TheVariants.{Sha1}
use Rattle.fetch_serve.specs.Depths.{is_moved, moved_of}
use Rattle.fetch_serve.proofs.Collecting.{kept_more}
use Rattle.fetch_serve.proofs.depth.moved.Goals as goal
use Rattle.fetch_serve.proofs.depth.moved.Goals.{then-is_moved+in_ok-push, else-is_moved}

pub loop-id-preserved : goal.loop-id-preserved
loop-id-preserved c =
    let history = graph_of c.args.walk.store.now.objects in
    let kept = c.args.kept.now in
    let moves = is_moved history c.args.border.now kept c.args.way in
    let i = c.loop-id.id-index in
    let none = Sha1 [] in
    let id = get_or kept i none in
    let lt : i < length kept = omega (arith, c.loop-id-test.true) in
    let now : c.if-is_moved.ids ≡ cond (moves id) (c.loop-id.ids ++ id ∷ []) c.loop-id.ids =
    elim c.if-is_moved.branch [
      | then-is_moved+in_ok-push w ↦ w.ids-is ∙ w.in_ok-push.ensures.ok ∙ sym (ap (λ b. cond b (c.loop-id.ids ++ id ∷ []) c.loop-id.ids) (sym c.is_moved.ensures ∙ w.if-is_moved.true))
      | else-is_moved w ↦ w.ids-is ∙ sym (ap (λ b. cond b (c.loop-id.ids ++ id ∷ []) c.loop-id.ids) (sym c.is_moved.ensures ∙ w.if-is_moved.false))
    ] in
    kept_more moves kept i none c.loop-id.ids c.if-is_moved.ids (moved_of history c.args.border.now kept c.args.way) lt c.loop-id.invariant now
