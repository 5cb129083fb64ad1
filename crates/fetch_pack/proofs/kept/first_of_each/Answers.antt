use Rattle.std.proofs.Common.{◌≡◌, ℕ, ◌∷◌, ◌++◌, [], length, Some, None, sym, ap, subst, ◌∙◌, arith}
use Rattle.std.specs.Vec.Iter.{into_iter_items}
use Rattle.std.specs.BTreeMap as tree
use Rattle.std.specs.FinMap.{find}
use Rattle.fetch_base.specs.contracts.id.ObjectIdOrd.TheImpl as order
use Rattle.fetch_base.specs.declared.id.ObjectId.{ObjectId}
use Rattle.fetch_objects.specs.Objects.{Stored}
use Rattle.fetch_store.specs.Stores.{Entries}
use Rattle.fetch_base.specs.Id.{id_cmp}
use Rattle.fetch_pack.specs.Reading.{distinct}
use Rattle.fetch_pack.specs.Places.{ArePlaces}
use Rattle.fetch_pack.proofs.Keeping.{going, stays_known, collides, is_new, new_place}
use Rattle.fetch_pack.proofs.kept.first_of_each.Goals as goal

pub returns-in-Some-find_kept : goal.returns-in-Some-find_kept
returns-in-Some-find_kept c =
    let e : ObjectId × Stored = (c.in-Some.id, c.in-Some.object) in
    let rest = into_iter_items c.next.new.self in
    let kept = c.loop-id.kept.items in
    let total = distinct c.args.entries.items in
    let found : find id_cmp e.0 kept ≡ Some c.in-Some-find_kept.earlier.now = ap (find id_cmp e.0) (sym c.as_slice.ensures.value) ∙ sym c.in-Some-find_kept.ensures in
    let so_far : going kept (e ∷ rest) ≡ total = ap (going kept) (sym c.in-Some.ensures.steps.0) ∙ c.loop-id.invariant.same in
    collides kept e rest c.in-Some-find_kept.earlier.now total found (sym c.has_same_text.ensures ∙ c.if-has_same_text.false) so_far

pub loop-id-preserved-then-has_same_text : goal.loop-id-preserved-then-has_same_text
loop-id-preserved-then-has_same_text c =
    let e : ObjectId × Stored = (c.in-Some.id, c.in-Some.object) in
    let rest = into_iter_items c.next.new.self in
    let kept = c.loop-id.kept.items in
    let total = distinct c.args.entries.items in
    let found : find id_cmp e.0 kept ≡ Some c.in-Some-find_kept.earlier.now = ap (find id_cmp e.0) (sym c.as_slice.ensures.value) ∙ sym c.in-Some-find_kept.ensures in
    let so_far : going kept (e ∷ rest) ≡ total = ap (going kept) (sym c.in-Some.ensures.steps.0) ∙ c.loop-id.invariant.same in
    record {
      next = tt;
      ends = tt;
      same = stays_known kept e rest c.in-Some-find_kept.earlier.now total found (sym c.has_same_text.ensures ∙ c.if-has_same_text.true) so_far;
      places = c.loop-id.invariant.places;
    }

pub loop-id-preserved : goal.loop-id-preserved
loop-id-preserved c =
    let e : ObjectId × Stored = (c.in-Some.id, c.in-Some.object) in
    let rest = into_iter_items c.next.new.self in
    let kept = c.loop-id.kept.items in
    let total = distinct c.args.entries.items in
    let none : find id_cmp e.0 kept ≡ None = ap (find id_cmp e.0) (sym c.as_slice.ensures.value) ∙ sym c.in-None-find_kept.ensures in
    let so_far : going kept (e ∷ rest) ≡ total = ap (going kept) (sym c.in-Some.ensures.steps.0) ∙ c.loop-id.invariant.same in
    let pushed : c.push.new.self.items ≡ kept ++ e ∷ [] = c.in_ok-push-in-None-find_kept.ensures.items in
    let all : c.len.result ≡ length kept = omega (arith, c.len.ensures) in
    let updates : tree.Updates (order.ghosts).cmp c.loop-id.places c.insert.new.self e.0 (Some (length kept)) =
    subst (λ (n : ℕ). tree.Updates (order.ghosts).cmp c.loop-id.places c.insert.new.self e.0 (Some n)) all c.in_ok-insert-in-None-find_kept.ensures.updates in
    record {
      next = tt;
      ends = tt;
      same = ap (λ (es : Entries). going es rest) pushed ∙ is_new kept e rest total none so_far;
      places = subst (λ (es : Entries). ArePlaces es c.insert.new.self) (sym pushed) (new_place kept c.loop-id.places c.insert.new.self e c.loop-id.invariant.places none updates);
    }
