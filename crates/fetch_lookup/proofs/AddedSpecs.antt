-- Refspecs are added, each once, beside the set of those that are there.
use Rattle.std.proofs.Common.{◌≡◌, ℕ, ◌+◌, ◌<◌, ◌≤◌, Bool, true, false, List, [], ◌∷◌, ◌++◌, length, get_or, drop, refl, sym, ap, ◌∙◌}
use Rattle.std.specs.List.{list_any}
use Rattle.std.specs.BTreeSet.{insert_key}
use Rattle.std.specs.Ordering.{is_eq, eq_by_cmp}
use Rattle.std.proofs.lemmas.List.{at_drop_all}
use Rattle.fetch_config.proofs.Flat.{drop_item}
use Rattle.fetch_specs.specs.Specs.{Spec}
use Rattle.fetch_specs.specs.contracts.spec.RefSpecOrd.TheImpl as order
use Rattle.fetch_lookup.specs.Extended.{one_more, extended}
use Rattle.fetch_lookup.specs.Ordered.{ascending, placed, is_among}
use Rattle.fetch_lookup.specs.SpecOrder.{spec_cmp}
use Rattle.fetch_lookup.proofs.Ascending.{ascends, spec_total}
use Rattle.fetch_lookup.proofs.Orders.{same_order}
use Rattle.fetch_lookup.proofs.Placing.{placed-append}
use Rattle.fetch_lookup.proofs.Removal.{any-same}

pub known-by : (keys : List Spec) (s : Spec) → list_any (λ k. is_eq ((order.cmp-value).it s k)) keys ≡ is_among spec_cmp keys s
known-by keys s = any-same (λ k. is_eq ((order.cmp-value).it s k)) (eq_by_cmp spec_cmp s) (λ k. ap is_eq (same_order s k)) keys

same-known : (keys all : List Spec) (s : Spec) → keys ≡ ascending spec_cmp all → is_among spec_cmp keys s ≡ is_among spec_cmp all s
same-known keys all s is = ap (λ ks. is_among spec_cmp ks s) is ∙ (ascends spec_total all).same s

pub stays-known : (keys all : List Spec) (s : Spec) (r : Bool) → keys ≡ ascending spec_cmp all → r ≡ is_among spec_cmp keys s → r ≡ true → all ≡ one_more all s
stays-known keys all s r is known there =
    let e : is_among spec_cmp all s ≡ true = sym (same-known keys all s is) ∙ sym known ∙ there in
    rw e refl

pub grows : (keys all new : List Spec) (s : Spec) (r : Bool) → keys ≡ ascending spec_cmp all → r ≡ is_among spec_cmp keys s → r ≡ false → new ≡ all ++ s ∷ [] → new ≡ one_more all s
grows keys all new s r is known gone pushed =
    let e : is_among spec_cmp all s ≡ false = sym (same-known keys all s is) ∙ sym known ∙ gone in
    rw e pushed

pub known-grows : (keys more all new : List Spec) (s : Spec) → keys ≡ ascending spec_cmp all → more ≡ insert_key spec_cmp keys s → new ≡ all ++ s ∷ [] → more ≡ ascending spec_cmp new
unfolding placed
known-grows keys more all new s is put pushed = put ∙ ap (λ ks. insert_key spec_cmp ks s) is ∙ sym (ap (ascending spec_cmp) pushed ∙ placed-append spec_cmp [] all (s ∷ []))

pub extend-step : (xs : List Spec) (i : ℕ) (x : Spec) (all new whole : List Spec) → i < length xs → x ≡ get_or xs i x → new ≡ one_more all x → extended all (drop i xs) ≡ whole → extended new (drop (i + 1) xs) ≡ whole
unfolding extended
extend-step xs i x all new whole lt is more so_far = ap (λ ys. extended ys (drop (i + 1) xs)) more ∙ ap (extended all) (sym (drop_item xs i x lt is)) ∙ so_far

pub extend-end : (xs : List Spec) (i : ℕ) (all whole : List Spec) → length xs ≤ i → extended all (drop i xs) ≡ whole → all ≡ whole
unfolding extended
extend-end xs i all whole over so_far = sym (at_drop_all (extended all) xs i over) ∙ so_far

pub put-step : (xs : List Spec) (i : ℕ) (x : Spec) (keys new whole : List Spec) → i < length xs → x ≡ get_or xs i x → new ≡ insert_key spec_cmp keys x → placed spec_cmp keys (drop i xs) ≡ whole → placed spec_cmp new (drop (i + 1) xs) ≡ whole
unfolding placed
put-step xs i x keys new whole lt is put so_far = ap (λ ks. placed spec_cmp ks (drop (i + 1) xs)) put ∙ ap (placed spec_cmp keys) (sym (drop_item xs i x lt is)) ∙ so_far

pub put-end : (xs : List Spec) (i : ℕ) (keys whole : List Spec) → length xs ≤ i → placed spec_cmp keys (drop i xs) ≡ whole → keys ≡ whole
unfolding placed
put-end xs i keys whole over so_far = sym (at_drop_all (placed spec_cmp keys) xs i over) ∙ so_far
