use Rattle.std.proofs.Common.{sym, ap, ◌∙◌}
use Rattle.std.specs.FinMap.{len}
use Rattle.fetch_store.specs.Stores.{StoreValue}
use Rattle.fetch_store.proofs.Buffers.{len-lent}
use Rattle.fetch_store.proofs.store.Store.len.Goals as goal

pub returns : goal.returns
returns c =
    let s = c.self.inside in
    c.len.ensures ∙ s.index.ok.0 ∙ sym (len-lent s.hash s.buffer.items s.index.items c.self.invariant.0) ∙ ap (λ (v : StoreValue). len v.objects) c.self.view_is
