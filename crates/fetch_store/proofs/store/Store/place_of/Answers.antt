use Rattle.std.proofs.Common.{◌≡◌, ◌<◌, map, length, get_or, None, sym, ap, subst, ◌∙◌}
use Rattle.std.specs.Prelude.{is_some, IfSome, MatchOption}
use Rattle.std.specs.FinMap.{contains_key, find, get, keys, len}
use Rattle.fetch_base.specs.declared.id.ObjectId.{ObjectId}
use Rattle.fetch_store.specs.declared.span.Span.{Span}
use Rattle.fetch_store.specs.Buffers.{Index, lent}
use Rattle.fetch_objects.specs.Objects.{Stored}
use Rattle.fetch_store.specs.Stores.{Entries, StoreValue}
use Rattle.fetch_base.specs.Id.{id_cmp}
use Rattle.fetch_store.proofs.Buffers.{entries-lent, get-lent, ids-lent, len-lent}
use Rattle.fetch_store.proofs.Finds.{is_some-mapped}
use Rattle.fetch_store.proofs.Marking.{placed}
use Rattle.fetch_store.proofs.store.Store.place_of.Goals as goal

pub returns-clause-within : goal.returns-clause-within
returns-clause-within c =
    let s = c.self.inside in
    let count : length c.as_slice.result.now ≡ len c.args.self.now.objects =
    ap length c.as_slice.ensures.value ∙ sym (len-lent s.hash s.buffer.items s.index.items c.self.invariant.0) ∙ ap (λ (v : StoreValue). len v.objects) c.self.view_is in
    subst (λ n. IfSome c.place_in_order.result (λ place. place < n)) count c.place_in_order.ensures.within

pub returns-clause-place : goal.returns-clause-place
returns-clause-place c =
    let s = c.self.inside in
    let q = c.args.id.now in
    let r = c.place_in_order.result in
    placed s.index.items (keys c.args.self.now.objects) q (contains_key c.args.self.now.objects q) r
    (sym (ids-lent s.hash s.buffer.items s.index.items) ∙ ap (λ (es : Entries). map (λ (e : ObjectId × Stored). e.0) es) (sym (entries-lent s.hash s.buffer.items s.index.items c.self.invariant.0))
    ∙ ap (λ (v : StoreValue). keys v.objects) c.self.view_is)
    (ap is_some (sym (ap (λ (v : StoreValue). get v.objects q) c.self.view_is) ∙ get-lent s.hash s.buffer.items s.index.items q) ∙ is_some-mapped (lent s.hash s.buffer.items) (find id_cmp q s.index.items))
    (subst (λ (es : Index). IfSome r (λ place. place < length es)) c.as_slice.ensures.value c.place_in_order.ensures.within)
    (subst (λ (es : Index). MatchOption r (find id_cmp q es ≡ None) (λ place. (d : ObjectId × Span) → (get_or es place d).0 ≡ q)) c.as_slice.ensures.value c.place_in_order.ensures.place)
