use Rattle.std.proofs.Common.{◌≡◌, ◌≤◌, ◌+◌, ◌*◌, ◌^◌, List, ℕ, length, Some, sym, ap, subst, ◌∙◌}
use Rattle.std.specs.Prelude.{option_map}
use Rattle.std.specs.FinMap.{get, find, len}
use Rattle.fetch_objects.specs.Objects.{Stored, IsObject}
use Rattle.fetch_objects.specs.References.{seen}
use Rattle.fetch_store.specs.Stores.{StoreValue}
use Rattle.fetch_base.specs.Id.{id_cmp}
use Rattle.fetch_store.specs.Buffers.{Index, lent}
use Rattle.fetch_store.proofs.Buffers.{get-lent, lent_at, len-lent}
use Rattle.fetch_store.proofs.store.Store.find_counted.Goals as goal

pub lend-requires : goal.lend-requires
lend-requires g c =
    let s = c.self.inside in
    let q = c.args.id.now in
    let found = sym (c.in-Some.ensures.value ∙ ap (λ (es : Index). find id_cmp q es) c.as_slice.ensures.value) in
    subst (λ (bs : List ℕ). c.in-Some.span.now.start + c.in-Some.span.now.length ≤ length bs) (sym c.as_slice-in-Some.ensures.value) (lent_at s.hash s.buffer.items s.index.items q c.in-Some.span.now c.self.invariant.0 found).within

pub returns-in-Some-clause-object : goal.returns-in-Some-clause-object
returns-in-Some-clause-object g c =
    let s = c.self.inside in
    let q = c.args.id.now in
    ap Some (c.lend.ensures ∙ ap (λ (bs : List ℕ). lent s.hash bs c.in-Some.span.now) c.as_slice-in-Some.ensures.value)
    ∙ ap (option_map (lent s.hash s.buffer.items)) (c.in-Some.ensures.value ∙ ap (λ (es : Index). find id_cmp q es) c.as_slice.ensures.value)
    ∙ sym (get-lent s.hash s.buffer.items s.index.items q) ∙ ap (λ (v : StoreValue). get v.objects q) c.self.view_is

pub returns-in-Some-clause-valid : goal.returns-in-Some-clause-valid
returns-in-Some-clause-valid g c =
    let s = c.self.inside in
    let q = c.args.id.now in
    let found = sym (c.in-Some.ensures.value ∙ ap (λ (es : Index). find id_cmp q es) c.as_slice.ensures.value) in
    let is : seen c.lend.result ≡ lent s.hash s.buffer.items c.in-Some.span.now = c.lend.ensures ∙ ap (λ (bs : List ℕ). lent s.hash bs c.in-Some.span.now) c.as_slice-in-Some.ensures.value in
    subst (λ (o : Stored). IsObject o.hash o.kind o.bytes) (sym is) (lent_at s.hash s.buffer.items s.index.items q c.in-Some.span.now c.self.invariant.0 found).valid

pub returns-in-None-clause-object : goal.returns-in-None-clause-object
returns-in-None-clause-object g c =
    let s = c.self.inside in
    let q = c.args.id.now in
    ap (option_map (lent s.hash s.buffer.items)) (c.in-None.ensures.value ∙ ap (λ (es : Index). find id_cmp q es) c.as_slice.ensures.value)
    ∙ sym (get-lent s.hash s.buffer.items s.index.items q) ∙ ap (λ (v : StoreValue). get v.objects q) c.self.view_is

pub returns-in-Some-clause-steps : goal.returns-in-Some-clause-steps
returns-in-Some-clause-steps g c =
    let s = c.self.inside in
    let count : length c.as_slice.result.now ≡ len c.args.self.now.objects =
    ap length c.as_slice.ensures.value ∙ sym (len-lent s.hash s.buffer.items s.index.items c.self.invariant.0) ∙ ap (λ (v : StoreValue). len v.objects) c.self.view_is in
    let k = c.in-Some.ensures.steps in
    (k.0, k.1, subst (λ (n : ℕ). 2 ^ k.0 ≤ 2 * n + 1) count k.2)

pub returns-in-None-clause-steps : goal.returns-in-None-clause-steps
returns-in-None-clause-steps g c =
    let s = c.self.inside in
    let count : length c.as_slice.result.now ≡ len c.args.self.now.objects =
    ap length c.as_slice.ensures.value ∙ sym (len-lent s.hash s.buffer.items s.index.items c.self.invariant.0) ∙ ap (λ (v : StoreValue). len v.objects) c.self.view_is in
    let k = c.in-None.ensures.steps in
    (k.0, k.1, subst (λ (n : ℕ). 2 ^ k.0 ≤ 2 * n + 1) count k.2)
