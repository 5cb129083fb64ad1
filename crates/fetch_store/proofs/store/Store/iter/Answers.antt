use Rattle.std.proofs.Common.{List, ℕ, sym, ap, ap₂, subst, ◌∙◌}
use Rattle.std.specs.FinMap.{entries}
use Rattle.fetch_store.specs.Stores.{StoreValue, Entries, AreOf}
use Rattle.fetch_store.specs.Buffers.{Index, entries_in}
use Rattle.fetch_store.proofs.Buffers.{AreOf-lent, entries-lent}
use Rattle.fetch_store.proofs.store.Store.iter.Goals as goal

pub returns-clause-objects : goal.returns-clause-objects
returns-clause-objects c =
    let s = c.self.inside in
    ap₂ (λ (bs : List ℕ) (es : Index). entries_in s.hash bs es) c.as_slice.ensures.value c.as_slice-2.ensures.value
    ∙ sym (entries-lent s.hash s.buffer.items s.index.items c.self.invariant.0) ∙ ap (λ (v : StoreValue). entries v.objects) c.self.view_is

pub returns-clause-of_hash : goal.returns-clause-of_hash
returns-clause-of_hash c =
    let s = c.self.inside in
    subst (λ (v : StoreValue). AreOf v.hash (entries v.objects)) c.self.view_is
    (subst (λ (es : Entries). AreOf s.hash es) (sym (entries-lent s.hash s.buffer.items s.index.items c.self.invariant.0)) (AreOf-lent s.hash s.buffer.items s.index.items c.self.invariant.0.lent))
