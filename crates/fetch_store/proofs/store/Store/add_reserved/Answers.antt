use Rattle.std.proofs.Common.{rules, ◌≡◌, None, sym, ap, ◌∙◌, subst, arith}
use Rattle.std.specs.FinMap.{len}
use Rattle.fetch_base.specs.declared.id.Kind.{Kind}
use Rattle.fetch_store.specs.Stores.{StoreValue, AreOf, map_of, collision}
use Rattle.fetch_store.specs.Buffers.{entries_in}
use Rattle.fetch_store.proofs.Buffers.{len-lent}
use Rattle.fetch_store.proofs.store.Store.add_reserved.Goals as goal

pub returns-clause-room : goal.returns-clause-room
returns-clause-room c =
    let s = c.self.inside in
    let es = c.as_slice.result.now in
    let of = subst (λ (k : Kind). AreOf k es) (sym (ap (λ (v : StoreValue). v.hash) c.self.view_is)) (search rules) in
    let none : collision (map_of (entries_in s.hash s.buffer.items s.index.items)) es ≡ None = ap (λ (v : StoreValue). collision v.objects es) c.self.view_is ∙ search rules in
    let taken = c.add_new.ensures.taken s.hash c.self.invariant.0 of none in
    let new = len-lent s.hash c.add_new.new.buffer.items c.add_new.new.index.items taken.indexed in
    let old = len-lent s.hash s.buffer.items s.index.items c.self.invariant.0 in
    let spare = ap (λ (v : StoreValue). v.spare) c.self.view_is in
    let count = ap (λ (v : StoreValue). len v.objects) c.self.view_is in
    let fits = c.add_new.new.index.ok in
    let fitted = s.index.ok in
    omega (arith, new, old, spare, count, fits.0, fits.1, fitted.0, fitted.1, c.len.ensures, c.len-count.ensures, c.add_new.ensures.len.0, c.add_new.ensures.len.1, c.requires.room, c.as_slice.ensures.len)
