use Rattle.std.proofs.Common.{◌+◌, ◌<◌, ◌||◌, Bool, length, drop, [], sym, ap, ◌∙◌, arith}
use Rattle.std.specs.List.{list_any}
use Rattle.fetch_reach.specs.Stored.{objects_at}
use Rattle.fetch_base.specs.declared.id.ObjectId.TheVariants.{Sha1}
use Rattle.fetch_serve.specs.Replies.{is_too_long}
use Rattle.fetch_serve.proofs.Collecting.{any_at}
use Rattle.fetch_serve.proofs.limits.has_too_long.Goals as goal

pub returns-then-is_too_long : goal.returns-then-is_too_long
returns-then-is_too_long c =
    let objects = c.args.store.now.objects in
    let p = is_too_long c.args.version in
    let lt : c.loop-id.id-index < length c.args.ids.now = omega (arith, c.loop-id-test.true) in
    let more = list_any p (objects_at objects (drop (c.loop-id.id-index + 1) c.args.ids.now)) in
    sym (sym c.loop-id.invariant ∙ any_at objects p c.args.ids.now c.loop-id.id-index (Sha1 []) lt ∙ ap (λ (b : Bool). b || more) (sym c.is_too_long.ensures ∙ c.if-is_too_long.true))

pub loop-id-preserved : goal.loop-id-preserved
loop-id-preserved c =
    let objects = c.args.store.now.objects in
    let p = is_too_long c.args.version in
    let lt : c.loop-id.id-index < length c.args.ids.now = omega (arith, c.loop-id-test.true) in
    let more = list_any p (objects_at objects (drop (c.loop-id.id-index + 1) c.args.ids.now)) in
    sym (any_at objects p c.args.ids.now c.loop-id.id-index (Sha1 []) lt ∙ ap (λ (b : Bool). b || more) (sym c.is_too_long.ensures ∙ c.if-is_too_long.false)) ∙ c.loop-id.invariant
