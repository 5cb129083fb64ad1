-- Verdicts, one after another.
use Rattle.std.proofs.Common.{◌≡◌, ℕ, suc, ◌+◌, ◌<◌, List, [], ◌∷◌, ◌++◌, length, get_or, drop, drop-cons, add-one, Result, Ok, Err, refl, sym, ap, ◌∙◌, append_assoc}
use Rattle.fetch_specs.specs.Specs.{Spec}
use Rattle.fetch_map.specs.Mappings.{spec_at}
use Rattle.fetch_map.specs.declared.mapping.Mapping.{Mapping}
use Rattle.fetch_update.specs.declared.update.Error.{Error}
use Rattle.fetch_update.specs.declared.verdict.Verdict.{Verdict}
use Rattle.fetch_update.specs.Policy.{Policy}
use Rattle.fetch_update.specs.Outcomes.{Verdicts, before, judged, verdicts_from}

-- verdicts before those of a result
abbrev pub joined : Verdicts → Result Verdicts Error → Result Verdicts Error
joined vs (Ok rest) = Ok (vs ++ rest)
joined vs (Err e) = Err e

pub joined-nil : (r : Result Verdicts Error) → joined [] r ≡ r
joined-nil (Ok rest) = refl
joined-nil (Err e) = refl

pub joined-before : (vs : Verdicts) (i : ℕ) (v : Verdict) (r : Result Verdicts Error) → joined (vs ++ (i, v) ∷ []) r ≡ joined vs (before i (Ok v) r)
joined-before vs i v (Ok rest) = ap (λ (xs : Verdicts). Ok xs) (append_assoc vs ((i, v) ∷ []) rest)
joined-before vs i v (Err e) = refl

module _ (p : Policy) (specs extra : List Spec) where
  pub at_mapping : (ms : List Mapping) (i : ℕ) (m : Mapping) → i < length ms → m ≡ get_or ms i m
      → verdicts_from p specs extra i (drop i ms) ≡ judged p i m (spec_at m.spec_index specs extra) (verdicts_from p specs extra (i + 1) (drop (i + 1) ms))
  at_mapping ms i m lt is =
      let next : drop i ms ≡ m ∷ drop (i + 1) ms = rw (add-one) (drop-cons ms i m lt ∙ ap (λ (x : Mapping). x ∷ drop (suc i) ms) (sym is)) in
      ap (verdicts_from p specs extra i) next
