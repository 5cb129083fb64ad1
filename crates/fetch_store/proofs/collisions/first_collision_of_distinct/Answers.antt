use Rattle.std.proofs.Common.{Bool, Some, sym, ap, ◌∙◌, cond, take, drop, ◌+◌}
use Rattle.std.specs.Prelude.{option_map}
use Rattle.std.specs.FinMap.{get}
use Rattle.fetch_objects.specs.References.{seen}
use Rattle.fetch_store.specs.Stores.{add_all, collision, first_some}
use Rattle.fetch_store.proofs.Additions.{collision_at, last_none}
use Rattle.fetch_store.proofs.Apart.{first_time}
use Rattle.fetch_store.proofs.collisions.first_collision_of_distinct.Goals as goal

pub returns-then-clashes : goal.returns-then-clashes
returns-then-clashes c =
    let e = c.loop-id-item.result in
    let m = c.args.store.now.objects in
    let es = c.args.objects.now in
    let i = c.loop-id.id-index in
    let new = first_time es i e c.requires c.loop-id-test.true c.loop-id-item.is in
    let known = c.get.ensures.object ∙ last_none (get m e.0) ∙ ap (first_some (get m e.0)) (sym new) in
    let step = collision_at m es i e (option_map seen c.get.result) c.loop-id-test.true c.loop-id-item.is known in
    let rest = collision (add_all m (take (i + 1) es)) (drop (i + 1) es) in
    sym (ap (λ (b : Bool). cond b (Some e.0) rest) (sym c.clashes.ensures ∙ c.if-clashes.true)) ∙ sym step ∙ c.loop-id.invariant

pub loop-id-preserved : goal.loop-id-preserved
loop-id-preserved c =
    let e = c.loop-id-item.result in
    let m = c.args.store.now.objects in
    let es = c.args.objects.now in
    let i = c.loop-id.id-index in
    let new = first_time es i e c.requires c.loop-id-test.true c.loop-id-item.is in
    let known = c.get.ensures.object ∙ last_none (get m e.0) ∙ ap (first_some (get m e.0)) (sym new) in
    let step = collision_at m es i e (option_map seen c.get.result) c.loop-id-test.true c.loop-id-item.is known in
    let rest = collision (add_all m (take (i + 1) es)) (drop (i + 1) es) in
    sym (ap (λ (b : Bool). cond b (Some e.0) rest) (sym c.clashes.ensures ∙ c.if-clashes.false)) ∙ sym step ∙ c.loop-id.invariant
