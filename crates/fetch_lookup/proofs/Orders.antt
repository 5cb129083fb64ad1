-- The order of refspecs is the one that they have in collections.
use Rattle.std.proofs.Common.{◌≡◌, ℕ, List, [], ◌∷◌, refl, ap, ◌∙◌, Option}
use Rattle.std.specs.BTreeSet.{insert_key}
use Rattle.std.specs.Ordering.{match_ordering}
use Rattle.std.specs.declared.cmp.Ordering.{Ordering}
use Rattle.fetch_specs.specs.Specs.{Spec}
use Rattle.fetch_specs.specs.contracts.spec.RefSpecOrd.TheImpl as order
use Rattle.fetch_specs.specs.declared.operation.Operation.{Operation}
use Rattle.fetch_specs.specs.declared.operation.Operation.TheVariants.{Push, Fetch}
use Rattle.fetch_specs.specs.declared.operation.Mode.{Mode}
use Rattle.fetch_specs.specs.declared.operation.Mode.TheVariants.{Normal, Force, Exclusion}
use Rattle.fetch_lookup.specs.SpecOrder.{spec_cmp}

abbrev made : Operation → Mode → Option (List ℕ) → Option (List ℕ) → Spec
made o m s d = record { operation = o; mode = m; source = s; destination = d }

of_parts : (o p : Operation) (m n : Mode) (s t d e : Option (List ℕ)) → (order.cmp-value).it (made o m s d) (made p n t e) ≡ spec_cmp (made o m s d) (made p n t e)
of_parts Push Fetch m n s t d e = refl
of_parts Fetch Push m n s t d e = refl
of_parts Push Push Normal Normal s t d e = refl
of_parts Push Push Normal Force s t d e = refl
of_parts Push Push Normal Exclusion s t d e = refl
of_parts Push Push Force Normal s t d e = refl
of_parts Push Push Force Force s t d e = refl
of_parts Push Push Force Exclusion s t d e = refl
of_parts Push Push Exclusion Normal s t d e = refl
of_parts Push Push Exclusion Force s t d e = refl
of_parts Push Push Exclusion Exclusion s t d e = refl
of_parts Fetch Fetch Normal Normal s t d e = refl
of_parts Fetch Fetch Normal Force s t d e = refl
of_parts Fetch Fetch Normal Exclusion s t d e = refl
of_parts Fetch Fetch Force Normal s t d e = refl
of_parts Fetch Fetch Force Force s t d e = refl
of_parts Fetch Fetch Force Exclusion s t d e = refl
of_parts Fetch Fetch Exclusion Normal s t d e = refl
of_parts Fetch Fetch Exclusion Force s t d e = refl
of_parts Fetch Fetch Exclusion Exclusion s t d e = refl

pub same_order : (a b : Spec) → (order.cmp-value).it a b ≡ spec_cmp a b
same_order a b = of_parts a.operation b.operation a.mode b.mode a.source b.source a.destination b.destination

-- Two orders that are one put a key at one place.
pub insert_same : {K : Type 0} (R S : K → K → Ordering) → ((a b : K) → R a b ≡ S a b) → (keys : List K) (k : K) → insert_key R keys k ≡ insert_key S keys k
insert_same R S same [] k = refl
insert_same R S same (x ∷ xs) k =
    ap (λ o. match_ordering o (k ∷ x ∷ xs) (x ∷ xs) (x ∷ insert_key R xs k)) (same k x)
    ∙ ap (λ ys. match_ordering (S k x) (k ∷ x ∷ xs) (x ∷ xs) (x ∷ ys)) (insert_same R S same xs k)

pub insert_spec : (keys : List Spec) (k : Spec) → insert_key (order.cmp-value).it keys k ≡ insert_key spec_cmp keys k
insert_spec keys k = insert_same (order.cmp-value).it spec_cmp same_order keys k
