use Rattle.std.proofs.Common.{◌≡◌, ◌↔◌, ℕ, ◌<◌, ◌≤◌, List, length, get_or, Result, Ok, Err, refl, ◌∙◌, inl, inr, arith, IsTrue, Contains}
use Rattle.std.specs.Result.{is_ok, MatchResult}
use Rattle.std.proofs.lemmas.Bool.{cases_lt}
use Rattle.std.proofs.lemmas.List.{get_or_default}
use Rattle.std.proofs.lemmas.List.Sorted.{searched, IsNonDecreasingBy-from_sort}
use Rattle.fetch_base.proofs.calls.Calls.count.Goals as goal

-- a search in ascending numbers finds exactly what they contain
found : (xs : List ℕ) (x : ℕ) (r : Result ℕ ℕ) → MatchResult r (λ i. (i < length xs) × (get_or xs i 0 ≡ x)) (λ i. (i ≤ length xs) × ((k : ℕ) → k < i → get_or xs k 0 < x) × ((k : ℕ) → i ≤ k → k < length xs → x < get_or xs k 0))
    → IsTrue (is_ok r) ↔ Contains xs x
found xs x (Ok i) is = (λ _. (i, is.0, get_or_default xs i x 0 is.0 ∙ is.1), λ _. refl)
found xs x (Err i) is = (
  λ h. cc,
  λ w. let e : get_or xs w.0 0 ≡ x = get_or_default xs w.0 0 x w.1 ∙ w.2 in elim (cases_lt w.0 i) [
    | inl lt ↦ absurd (omega (arith, is.1 w.0 lt))
    | inr le ↦ absurd (omega (arith, is.2 w.0 le w.1))
  ],
)

pub returns-clause-listed : goal.returns-clause-listed
returns-clause-listed c =
    let xs = c.self.inside.listed.items in
    let up = IsNonDecreasingBy-from_sort (λ (n : ℕ). n) xs c.self.invariant in
    let at = found xs c.self.inside.next c.binary_search.result (searched xs _ _ (rw c.deref.ensures.value at c.binary_search.ensures.position) (λ i j le lt. up i j 0 le lt)) in
    rw (← c.self.view_is, c.is_ok.ensures.value) at
