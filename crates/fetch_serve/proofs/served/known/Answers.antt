use Rattle.std.proofs.Common.{◌≡◌, ◌<◌, ◌++◌, ◌∷◌, [], cond, length, get_or, sym, ap, ◌∙◌, arith}
use Rattle.std.specs.FinMap as finmap
use Rattle.fetch_base.specs.declared.id.ObjectId.TheVariants.{Sha1}
use Rattle.fetch_serve.specs.Packs.{stored_in}
use Rattle.fetch_serve.proofs.Collecting.{kept_more}
use Rattle.fetch_serve.proofs.served.known.Goals as goal
use Rattle.fetch_serve.proofs.served.known.Goals.{then-contains+in_ok-push, else-contains}

pub loop-id-preserved : goal.loop-id-preserved
loop-id-preserved c =
    let objects = c.args.store.now.objects in
    let haves = c.args.haves.now in
    let i = c.loop-id.id-index in
    let none = Sha1 [] in
    let id = get_or haves i none in
    let lt : i < length haves = omega (arith, c.loop-id-test.true) in
    let now : c.if-contains.ids ≡ cond (finmap.contains_key objects id) (c.loop-id.ids ++ id ∷ []) c.loop-id.ids =
    elim c.if-contains.branch [
      | then-contains+in_ok-push w ↦ w.ids-is ∙ w.in_ok-push.ensures.ok ∙ sym (ap (λ b. cond b (c.loop-id.ids ++ id ∷ []) c.loop-id.ids) (sym c.contains.ensures ∙ w.if-contains.true))
      | else-contains w ↦ w.ids-is ∙ sym (ap (λ b. cond b (c.loop-id.ids ++ id ∷ []) c.loop-id.ids) (sym c.contains.ensures ∙ w.if-contains.false))
    ] in
    kept_more (finmap.contains_key objects) haves i none c.loop-id.ids c.if-contains.ids (stored_in objects haves) lt c.loop-id.invariant now
