use Rattle.std.proofs.Common.{◌≡◌, Bool, Option, Some, [], ◌∷◌, ◌++◌, refl, sym, ap, subst, ◌∙◌, cond, take, drop, ◌+◌}
use Rattle.std.specs.Prelude.{is_some, option_map}
use Rattle.std.specs.FinMap.{entries, get-entries, find}
use Rattle.std.specs.BTreeMap as tree
use Rattle.std.specs.Option.{option_copied}
use Rattle.fetch_store.specs.Stores.{Entries, add_all, collision, first_some}
use Rattle.fetch_base.specs.Id.{id_cmp}
use Rattle.fetch_objects.specs.Objects.{Stored}
use Rattle.fetch_objects.specs.References.{seen}
use Rattle.fetch_store.proofs.Additions.{collision_at}
use Rattle.fetch_store.proofs.Finds.{is_some-mapped}
use Rattle.fetch_store.proofs.Indexed.{Indexes, held, known_stays, new_indexed, taken_more}
use Rattle.fetch_store.proofs.collisions.first_collision_by_index.Goals as goal
use Rattle.fetch_store.proofs.collisions.first_collision_by_index.Goals.{then-is_none+in_ok-insert, else-is_none}

pub returns-then-clashes : goal.returns-then-clashes
returns-then-clashes c =
    let e = c.loop-id-item.result in
    let m = c.args.store.now.objects in
    let at : option_map seen c.find_in_store_or_index-known.result ≡ held (entries m) c.loop-id.earlier e.0 =
    c.find_in_store_or_index-known.ensures ∙ ap (λ (o : Option Stored). first_some o (option_copied (tree.get id_cmp c.loop-id.earlier e.0))) (get-entries m e.0) in
    let known = at ∙ c.loop-id.invariant.indexed.each e.0 ∙ ap (λ (o : Option Stored). first_some o (find id_cmp e.0 (take c.loop-id.id-index c.args.objects.now))) (sym (get-entries m e.0)) in
    let step = collision_at c.args.store.now.objects c.args.objects.now c.loop-id.id-index e (option_map seen c.find_in_store_or_index-known.result) c.loop-id-test.true c.loop-id-item.is known in
    let rest = collision (add_all c.args.store.now.objects (take (c.loop-id.id-index + 1) c.args.objects.now)) (drop (c.loop-id.id-index + 1) c.args.objects.now) in
    sym (ap (λ (b : Bool). cond b (Some e.0) rest) (sym c.clashes.ensures ∙ c.if-clashes.true)) ∙ sym step ∙ c.loop-id.invariant.same

pub loop-id-preserved : goal.loop-id-preserved
loop-id-preserved c =
    let e = c.loop-id-item.result in
    let m = c.args.store.now.objects in
    let at : option_map seen c.find_in_store_or_index-known.result ≡ held (entries m) c.loop-id.earlier e.0 =
    c.find_in_store_or_index-known.ensures ∙ ap (λ (o : Option Stored). first_some o (option_copied (tree.get id_cmp c.loop-id.earlier e.0))) (get-entries m e.0) in
    let known = at ∙ c.loop-id.invariant.indexed.each e.0 ∙ ap (λ (o : Option Stored). first_some o (find id_cmp e.0 (take c.loop-id.id-index c.args.objects.now))) (sym (get-entries m e.0)) in
    let step = collision_at c.args.store.now.objects c.args.objects.now c.loop-id.id-index e (option_map seen c.find_in_store_or_index-known.result) c.loop-id-test.true c.loop-id-item.is known in
    let rest = collision (add_all c.args.store.now.objects (take (c.loop-id.id-index + 1) c.args.objects.now)) (drop (c.loop-id.id-index + 1) c.args.objects.now) in
    let held_at = ap is_some (sym at) ∙ is_some-mapped seen c.find_in_store_or_index-known.result in
    let more = taken_more c.args.objects.now c.loop-id.id-index e c.loop-id-test.true c.loop-id-item.is in
    let before = c.loop-id.invariant.indexed in
    record {
      same = sym (ap (λ (b : Bool). cond b (Some e.0) rest) (sym c.clashes.ensures ∙ c.if-clashes.false)) ∙ sym step ∙ c.loop-id.invariant.same;
      indexed = subst (λ (es : Entries). Indexes (entries m) es c.if-is_none.earlier) more
          (elim c.if-is_none.branch [
            | then-is_none+in_ok-insert w ↦
                subst (Indexes (entries m) (take c.loop-id.id-index c.args.objects.now ++ e ∷ [])) (sym w.earlier-is)
                (new_indexed (entries m) (take c.loop-id.id-index c.args.objects.now) c.loop-id.earlier w.insert.new.self e _ before (held_at ∙ w.if-is_none.ensures) refl w.in_ok-insert.ensures.updates)
            | else-is_none w ↦
                subst (Indexes (entries m) (take c.loop-id.id-index c.args.objects.now ++ e ∷ [])) (sym w.earlier-is)
                (known_stays (entries m) (take c.loop-id.id-index c.args.objects.now) c.loop-id.earlier e before (held_at ∙ w.if-is_none.ensures))
          ]);
    }
