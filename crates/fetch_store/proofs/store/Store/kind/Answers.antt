use Rattle.std.proofs.Common.{subst}
use Rattle.fetch_store.specs.Stores.{StoreValue}
use Rattle.fetch_store.specs.Buffers.{entries_in}
use Rattle.fetch_store.specs.Closed.{AreAllOf}
use Rattle.fetch_store.proofs.Consistent.{of_hash}
use Rattle.fetch_store.proofs.Buffers.{AreOf-lent}
use Rattle.fetch_store.proofs.store.Store.kind.Goals as goal

pub returns-clause-objects : goal.returns-clause-objects
returns-clause-objects c =
    let s = c.self.inside in
    let of = AreOf-lent s.hash s.buffer.items s.index.items c.self.invariant.0.lent in
    subst (λ (v : StoreValue). AreAllOf v.hash v.objects) c.self.view_is (record { each = of_hash s.hash (entries_in s.hash s.buffer.items s.index.items) of })
