use Rattle.std.proofs.Common.{rules, ◌≡◌, ◌+◌, ◌++◌, ◌∷◌, [], All, None, length, take, sym, ap, subst, ◌∙◌, arith}
use Rattle.std.specs.Prelude.{is_some}
use Rattle.std.specs.FinMap.{find}
use Rattle.std.proofs.lemmas.List.{length-append}
use Rattle.fetch_objects.specs.Objects.{Stored}
use Rattle.fetch_base.specs.Id.{id_cmp}
use Rattle.fetch_store.specs.Buffers.{Index}
use Rattle.fetch_store.proofs.Finds.{is_some-copied}
use Rattle.fetch_store.proofs.Buffers.{step_known, step_new, payload_at, absent_of, new_id, same_appended, all_taken}
use Rattle.fetch_store.proofs.buffer.append_new.Goals as goal

pub loop-id-preserved-then-is_some : goal.loop-id-preserved-then-is_some
loop-id-preserved-then-is_some c =
    let i = c.loop-id.id-index in
    let m = c.loop-id.invariant in
    let e = c.loop-id-item.result in
    let objects = c.args.objects.now in
    let known = sym (c.is_some.ensures ∙ is_some-copied c.find_in_order.result ∙ ap is_some c.find_in_order.ensures) ∙ c.if-is_some.true in
    let more = payload_at objects i e c.loop-id-test.true c.loop-id-item.is in
    record {
      appended = λ hash indexed of. step_known hash c.args.index.now c.args.buffer.now.items c.loop-id.buffer.items c.loop-id.fresh.items objects i e (m.appended hash indexed of) c.loop-id-test.true c.loop-id-item.is known;
      new_ids = m.new_ids;
      len = omega (arith, m.len);
      room = omega (arith, m.room, more);
      grown = m.grown;
      capacity = m.capacity;
      fresh_capacity = m.fresh_capacity;
    }

pub loop-id-preserved : goal.loop-id-preserved
loop-id-preserved c =
    let i = c.loop-id.id-index in
    let m = c.loop-id.invariant in
    let e = c.loop-id-item.result in
    let objects = c.args.objects.now in
    let before = c.loop-id.buffer.items in
    let index = c.args.index.now in
    let none = absent_of (find id_cmp e.0 index) (sym (c.is_some.ensures ∙ is_some-copied c.find_in_order.result ∙ ap is_some c.find_in_order.ensures) ∙ c.if-is_some.false) in
    let more = payload_at objects i e c.loop-id-test.true c.loop-id-item.is in
    let same = c.as_ref.ensures.same in
    let bytes : c.append-span.new.buffer.items ≡ before ++ e.1.bytes = c.append-span.ensures.bytes ∙ ap (λ (o : Stored). before ++ o.bytes) same in
    let span : c.append-span.result ≡ record { kind = e.1.kind; start = length before; length = length e.1.bytes } = c.append-span.ensures.span ∙ ap (λ (o : Stored). record { kind = o.kind; start = length before; length = length o.bytes }) same in
    let pushed = c.push_reserved.ensures.items in
    let long = ap length bytes ∙ length-append before e.1.bytes in
    let fits = c.append-span.new.buffer.ok in
    let fitted = c.loop-id.buffer.ok in
    record {
      appended = λ hash indexed of. same_appended hash index c.args.buffer.now.items (before ++ e.1.bytes) c.append-span.new.buffer.items (c.loop-id.fresh.items ++ (e.0, c.append-span.result) ∷ []) c.push_reserved.new.self.items (take (i + 1) objects) (sym bytes) (sym pushed)
          (step_new hash index c.args.buffer.now.items before c.loop-id.fresh.items objects i e (m.appended hash indexed of) c.loop-id-test.true c.loop-id-item.is c.append-span.result of c.as_ref.ensures.valid span);
      new_ids = subst (λ (f : Index). All (λ e. find id_cmp e.0 index ≡ None) f) (sym pushed) (new_id index c.loop-id.fresh.items e.0 c.append-span.result m.new_ids none);
      len = search rules;
      room = omega (arith, m.room, more, long, fits.0, fits.1, fitted.0, fitted.1);
      grown = omega (arith, m.grown, long, fits.0, fits.1, fitted.0, fitted.1);
      capacity = search rules;
      fresh_capacity = search rules;
    }

pub returns-clause-appended : goal.returns-clause-appended
returns-clause-appended c hash indexed of =
    all_taken hash c.args.index.now c.args.buffer.now.items c.loop-id.buffer.items c.loop-id.fresh.items c.args.objects.now c.loop-id.id-index (search rules) (c.loop-id.invariant.appended hash indexed of)
