use Rattle.std.proofs.Common.{sym, ap, ◌∙◌}
use Rattle.std.specs.Prelude.{is_some}
use Rattle.std.specs.FinMap.{get, find}
use Rattle.fetch_store.specs.Stores.{StoreValue}
use Rattle.fetch_base.specs.Id.{id_cmp}
use Rattle.fetch_store.specs.Buffers.{Index, lent}
use Rattle.fetch_store.proofs.Finds.{is_some-copied, is_some-mapped}
use Rattle.fetch_store.proofs.Buffers.{get-lent}
use Rattle.fetch_store.proofs.store.Store.contains.Goals as goal

pub returns : goal.returns
returns c =
    let s = c.self.inside in
    let q = c.args.id.now in
    c.is_some.ensures ∙ is_some-copied c.find_in_order.result ∙ ap is_some (c.find_in_order.ensures ∙ ap (λ (es : Index). find id_cmp q es) c.as_slice.ensures.value)
    ∙ sym (is_some-mapped (lent s.hash s.buffer.items) (find id_cmp q s.index.items))
    ∙ ap is_some (sym (get-lent s.hash s.buffer.items s.index.items q) ∙ ap (λ (v : StoreValue). get v.objects q) c.self.view_is)
