-- Maps of the library against finite maps.
use Rattle.std.proofs.Common.{◌≡◌, Bool, true, false, cond, List, [], ◌∷◌, ◌++◌, Some, None, refl, sym, ap, ◌∙◌, subst, append_assoc, T}
use Rattle.std.specs.Prelude.{◌&&◌, IsTrue}
use Rattle.std.specs.List.{AllByRecursion}
use Rattle.std.specs.List.Sorted.{IsStrictlySortedBy}
use Rattle.std.specs.Ordering.{eq_by_cmp, is_eq, is_lt, match_ordering, ordering_reverse}
use Rattle.std.specs.Cmp.{IsTotalOrder}
use Rattle.std.specs.FinMap as finmap
use Rattle.std.specs.FinMap.{find, get-from_entries}
use Rattle.std.specs.FinMap.Entries.{is_sorted, below_all}
use Rattle.std.specs.Map.{keys_of, lookup}
use Rattle.std.specs.BTreeMap.{insert_entry, is_at}
use Rattle.std.specs.declared.cmp.Ordering.{Ordering}
use Rattle.std.specs.declared.cmp.Ordering.TheVariants.{Less, Equal, Greater}

module _ {K X : Type 0} (R : K → K → Ordering) where
  pub find-lookup : (q : K) (es : List (K × X)) → lookup (is_at (R q)) es ≡ find R q es
  find-lookup q [] = refl
  find-lookup q (e ∷ es) = ap (λ o. cond (is_eq (R q e.0)) (Some e.1) o) (find-lookup q es)

  below : (k : K) (es : List (K × X)) → AllByRecursion (λ y. R k y ≡ Less) (keys_of es) → below_all R k es ≡ true
  below k [] a = refl
  below k (e ∷ es) a = ap (λ r. is_lt r && below_all R k es) a.0 ∙ below k es a.1

  pub sorted : (es : List (K × X)) → IsStrictlySortedBy R (keys_of es) → is_sorted R es ≡ true
  unfolding IsStrictlySortedBy
  sorted [] s = refl
  sorted (e ∷ es) s = ap (λ b. b && is_sorted R es) (below e.0 es s.0) ∙ sorted es s.1

  before : (e : K) (es : List (K × X)) (k : K) (v : X) (rest : List (K × X)) → AllByRecursion (λ y. R e y ≡ Less) (keys_of (es ++ (k, v) ∷ rest)) → R e k ≡ Less
  before e [] k v rest a = a.0
  before e (x ∷ es) k v rest a = before e es k v rest a.1

T-true : {b : Bool} → IsTrue b → T b
T-true {b} h = subst T (sym h) tt

module _ {K X : Type 0} {R : K → K → Ordering} (o : IsTotalOrder R) where
  -- a key after all others goes to the end
  pub insert-last : (es : List (K × X)) (k : K) (v : X) (rest : List (K × X)) → IsStrictlySortedBy R (keys_of (es ++ (k, v) ∷ rest)) → insert_entry R es k v ≡ es ++ (k, v) ∷ []
  unfolding IsStrictlySortedBy
  insert-last [] k v rest s = refl
  insert-last (e ∷ es) k v rest s =
      ap (λ r. match_ordering r ((k, v) ∷ e ∷ es) ((e.0, v) ∷ es) (e ∷ insert_entry R es k v)) (o.antisymm k e.0 ∙ ap ordering_reverse (before R e.0 es k v rest s.0))
      ∙ ap (λ xs. e ∷ xs) (insert-last es k v rest s.1)

  -- one entry more of those that are copied
  pub one-more : (all es s rest more : List (K × X)) (k k' : K) (v v' : X) → IsStrictlySortedBy R (keys_of all)
      → es ++ s ≡ all → s ≡ (k, v) ∷ rest → more ≡ insert_entry R es k' v' → k' ≡ k → v' ≡ v → more ++ rest ≡ all
  one-more all es s rest more k k' v v' order so_far next is same-key same-value =
      let split : es ++ (k, v) ∷ rest ≡ all = ap (λ xs. es ++ xs) (sym next) ∙ so_far in
      let in_order : IsStrictlySortedBy R (keys_of (es ++ (k, v) ∷ rest)) = subst (λ xs. IsStrictlySortedBy R (keys_of xs)) (sym split) order in
      let last : insert_entry R es k v ≡ es ++ (k, v) ∷ [] = insert-last es k v rest in_order in
      let is' : more ≡ insert_entry R es k v = is ∙ ap (λ x. insert_entry R es x v') same-key ∙ ap (λ x. insert_entry R es k x) same-value in
      ap (λ xs. xs ++ rest) (is' ∙ last) ∙ append_assoc es ((k, v) ∷ []) rest ∙ split

  -- the entries of the map of sorted entries
  pub entries-sorted : finmap.IsAntisymmetric R → (es : List (K × X)) → IsStrictlySortedBy R (keys_of es) → finmap.entries (finmap.from_entries {R = R} es) ≡ es
  entries-sorted exact es s =
      let h : IsTrue (is_sorted R es) = sorted R es s in
      ap finmap.entries (finmap.same_map o exact (finmap.from_entries es) (finmap.from_sorted es) (λ q. get-from_entries o es q ∙ sym (finmap.get-from_sorted R es q (T-true h))))
      ∙ finmap.entries-from_sorted R es (T-true h)

is_eq-reverse : (r : Ordering) → is_eq (ordering_reverse r) ≡ is_eq r
is_eq-reverse Less = refl
is_eq-reverse Equal = refl
is_eq-reverse Greater = refl

twice : {Y : Type 0} (b : Bool) (x y : Y) (z : Y) → cond b x (cond b y z) ≡ cond b x z
twice true x y z = refl
twice false x y z = refl

same_tie : {K : Type 0} {R : K → K → Ordering} → IsTotalOrder R → (k q : K) → is_eq (R k q) ≡ eq_by_cmp R q k
same_tie {R = R} o k q = ap is_eq (o.antisymm k q) ∙ is_eq-reverse (R q k)

module _ {K X : Type 0} {R : K → K → Ordering} (o : IsTotalOrder R) (exact : finmap.IsAntisymmetric R) where
  pub get-from : (es : List (K × X)) (q : K) → lookup (is_at (R q)) es ≡ finmap.get (finmap.from_entries {R = R} es) q
  get-from es q = find-lookup R q es ∙ sym (get-from_entries o es q)

  -- what a change at one key does to the map of the entries
  pub from_insert : (es fs : List (K × X)) (k : K) (v : X) → ((q : K) → lookup (is_at (R q)) fs ≡ cond (is_at (R k) q) (Some v) (lookup (is_at (R q)) es))
      → finmap.from_entries {R = R} fs ≡ finmap.insert (finmap.from_entries es) k v
  from_insert es fs k v step =
      finmap.same_map o exact _ _ (λ q.
      sym (get-from fs q) ∙ step q ∙ ap (λ b. cond b (Some v) (lookup (is_at (R q)) es)) (same_tie o k q)
      ∙ ap (cond (eq_by_cmp R q k) (Some v)) (get-from es q) ∙ sym (finmap.get-insert o (finmap.from_entries es) k v q))

  pub from_remove : (es fs : List (K × X)) (k : K) → ((q : K) → lookup (is_at (R q)) fs ≡ cond (is_at (R k) q) None (lookup (is_at (R q)) es))
      → finmap.from_entries {R = R} fs ≡ finmap.remove (finmap.from_entries es) k
  from_remove es fs k step =
      finmap.same_map o exact _ _ (λ q.
      sym (get-from fs q) ∙ step q ∙ ap (λ b. cond b None (lookup (is_at (R q)) es)) (same_tie o k q)
      ∙ ap (cond (eq_by_cmp R q k) None) (get-from es q) ∙ sym (finmap.get-remove o (finmap.from_entries es) k q))

  -- a value that is put back is put
  pub insert-remove : (m : finmap.FinMap R X) (k : K) (v : X) → finmap.insert (finmap.remove m k) k v ≡ finmap.insert m k v
  insert-remove m k v =
      finmap.same_map o exact _ _ (λ q.
      finmap.get-insert o (finmap.remove m k) k v q ∙ ap (cond (eq_by_cmp R q k) (Some v)) (finmap.get-remove o m k q)
      ∙ twice (eq_by_cmp R q k) (Some v) None (finmap.get m q) ∙ sym (finmap.get-insert o m k v q))
