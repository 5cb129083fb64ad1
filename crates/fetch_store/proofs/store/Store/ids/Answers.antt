use Rattle.std.proofs.Common.{sym, ap, subst, ◌∙◌, map}
use Rattle.std.specs.FinMap.{keys}
use Rattle.std.specs.List.Sorted.{IsStrictlySortedBy}
use Rattle.fetch_base.specs.declared.id.ObjectId.{ObjectId}
use Rattle.fetch_store.specs.declared.span.Span.{Span}
use Rattle.fetch_objects.specs.Objects.{Stored}
use Rattle.fetch_store.specs.Stores.{Entries, StoreValue}
use Rattle.fetch_base.specs.Id.{id_cmp}
use Rattle.fetch_store.specs.Buffers.{Index}
use Rattle.fetch_store.proofs.Keys.{keys-rise}
use Rattle.fetch_store.proofs.Buffers.{entries-lent, ids-lent}
use Rattle.fetch_store.proofs.store.Store.ids.Goals as goal

pub returns-clause-ids : goal.returns-clause-ids
returns-clause-ids c =
    let s = c.self.inside in
    c.in_ok-ids_in.ensures ∙ ap (λ (es : Index). map (λ (e : ObjectId × Span). e.0) es) c.as_slice.ensures.value ∙ sym (ids-lent s.hash s.buffer.items s.index.items)
    ∙ ap (λ (es : Entries). map (λ (e : ObjectId × Stored). e.0) es) (sym (entries-lent s.hash s.buffer.items s.index.items c.self.invariant.0)) ∙ ap (λ (v : StoreValue). keys v.objects) c.self.view_is

pub returns-clause-ascending : goal.returns-clause-ascending
returns-clause-ascending c = subst (IsStrictlySortedBy id_cmp) (sym (returns-clause-ids c)) (keys-rise c.args.self.now.objects)
