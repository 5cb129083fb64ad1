use Rattle.std.proofs.Common.{◌≡◌, ◌≢◌, ℕ, ◌+◌, ◌<◌, List, length, get_or, Err, sym, ap, ◌∙◌, inl, inr, arith, rules}
use Rattle.std.specs.Cmp.{nat_cmp_is}
use Rattle.std.specs.Ordering.{nat_cmp, is_lt}
use Rattle.std.specs.declared.cmp.Ordering.TheVariants.{Equal, Greater}
use Rattle.std.specs.List.Sorted.{IsBinarySearchResult, IsSortedByKey}
use Rattle.std.proofs.lemmas.Bool.{cases_lt}
use Rattle.std.proofs.lemmas.Cmp.{nat_cmp_total}
use Rattle.std.proofs.lemmas.List.Sorted.{answers_always, searchable_from_sorted}
use Rattle.std.proofs.lemmas.Map.Lookups.{exact_unsigned}
use Rattle.fetch_store.specs.Fronts.{Rise}
use Rattle.fetch_store.proofs.fronts.find_front.Goals as goal

keys_rise : (places : List (ℕ × ℕ)) → Rise places → IsSortedByKey (λ (p : ℕ × ℕ). p.0) nat_cmp places
keys_rise places rise k d low high = ap is_lt (sym (nat_cmp_is (get_or places (k + 1) d).0 (get_or places k d).0 Greater (rise k d high)))

apart_if : (x n : ℕ) → (nat_cmp x n ≡ Equal → ⊥) → x ≢ n
apart_if x n other same = other (sym (nat_cmp_is x n Equal same))

elsewhere : (places : List (ℕ × ℕ)) (n i : ℕ) → Rise places → IsBinarySearchResult (λ (p : ℕ × ℕ). nat_cmp p.0 n) places (Err i) → (k : ℕ) (d : ℕ × ℕ) → k < length places → (get_or places k d).0 ≢ n
elsewhere places n i rise at k d lt =
    let parts = at (searchable_from_sorted nat_cmp_total (λ (p : ℕ × ℕ). p.0) places n (keys_rise places rise)) in
    apart_if (get_or places k d).0 n (λ same. elim (cases_lt k i) [ inl under ↦ cc (sym (parts.0 k d (omega arith) under) ∙ same) | inr over ↦ cc (sym (parts.1 k d over lt) ∙ same) ])

pub returns-in-Ok-clause-at : goal.returns-in-Ok-clause-at
returns-in-Ok-clause-at c = λ d.
    let at = c.in-Ok.ensures.position (λ (p : ℕ × ℕ). p.0) (answers_always _ _ _ (λ f a r h k. search rules)) in
    exact_unsigned _ _ (at d)

pub returns-in-Err-clause-at : goal.returns-in-Err-clause-at
returns-in-Err-clause-at c =
    let at = c.in-Err.ensures.position (λ (p : ℕ × ℕ). p.0) (answers_always _ _ _ (λ f a r h k. search rules)) in
    elsewhere c.args.places.now c.args.number c.in-Err.field-0 c.requires at
