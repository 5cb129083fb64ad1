-- Putting a text among sorted ones.
use Rattle.std.proofs.Common.{◌≡◌, ℕ, List, [], ◌∷◌, ◌++◌, refl, ap, ◌∙◌}
use Rattle.std.specs.BTreeSet.{insert_key}
use Rattle.std.specs.Cmp.Lexicographic.{slice_cmp}
use Rattle.std.specs.Ordering.{match_ordering, nat_cmp}
use Rattle.std.specs.declared.cmp.Ordering.{Ordering}
use Rattle.std.specs.declared.cmp.Ordering.TheVariants.{Less, Equal, Greater}
use Rattle.fetch_specs.specs.Prefixes.{placed, put, put_all}

pub put_all-append : (into xs ys : List (List ℕ)) → put_all into (xs ++ ys) ≡ put_all (put_all into xs) ys
put_all-append into [] ys = refl
put_all-append into (x ∷ xs) ys = put_all-append (put x into) xs ys

-- what a set does with a text
pub put_key : (texts : List (List ℕ)) (text : List ℕ) → insert_key (slice_cmp nat_cmp) texts text ≡ put text texts
put_key [] text = refl
put_key (t ∷ ts) text =
    ap (λ (rest : List (List ℕ)). match_ordering (slice_cmp nat_cmp text t) (text ∷ t ∷ ts) (t ∷ ts) (t ∷ rest)) (put_key ts text) ∙ by_order (slice_cmp nat_cmp text t)
  where
    by_order : (o : Ordering) → match_ordering o (text ∷ t ∷ ts) (t ∷ ts) (t ∷ put text ts) ≡ placed o text t ts (put text ts)
    by_order Less = refl
    by_order Equal = refl
    by_order Greater = refl
