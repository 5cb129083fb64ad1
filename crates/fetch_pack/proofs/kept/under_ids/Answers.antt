use Rattle.std.proofs.Common.{◌+◌, ◌<◌, [], ◌∷◌, ◌++◌, length, get_or, drop, refl, sym, ap, ◌∙◌, arith}
use Rattle.std.proofs.lemmas.List.{append_assoc}
use Rattle.std.specs.Vec.Iter.{into_iter_items}
use Rattle.fetch_base.specs.declared.id.ObjectId.{ObjectId}
use Rattle.fetch_base.specs.declared.id.ObjectId.TheVariants as ids
use Rattle.fetch_objects.specs.Objects.{Stored}
use Rattle.fetch_store.specs.Stores.{Entries}
use Rattle.fetch_pack.specs.Reading.{paired}
use Rattle.fetch_pack.proofs.Keeping.{paired_step}
use Rattle.fetch_pack.proofs.kept.under_ids.Goals as goal

pub loop-object-preserved : goal.loop-object-preserved
loop-object-preserved c =
    let d : ObjectId = ids.Sha1 [] in
    let id = get_or c.args.ids.now c.loop-object.i d in
    let e : ObjectId × Stored = (id, c.in-Some.object) in
    let rest = into_iter_items c.next.new.self in
    let more = paired (drop (c.loop-object.i + 1) c.args.ids.now) rest in
    let step = c.in-Some.ensures.steps.0 in
    let lt : c.loop-object.i < length c.args.ids.now = omega (arith, c.loop-object.invariant.left, ap length step) in
    record {
      next = tt;
      ends = tt;
      left = omega (arith, c.loop-object.invariant.left, ap length step);
      same = ap (λ (es : Entries). es ++ more) c.in_ok-push.ensures.items ∙ append_assoc c.loop-object.entries.items (e ∷ []) more
          ∙ ap (λ (es : Entries). c.loop-object.entries.items ++ es) (sym (ap (paired (drop c.loop-object.i c.args.ids.now)) step ∙ paired_step c.args.ids.now c.loop-object.i id d c.in-Some.object rest lt refl))
          ∙ c.loop-object.invariant.same;
    }
