-- The values that stand, in the order of their names.
use Rattle.std.proofs.Common.{◌≡◌, ℕ, Bool, true, false, cond, List, [], ◌∷◌, Option, Some, None, unwrap_or, refl, sym, ap, ◌∙◌, subst}
use Rattle.std.specs.List.{AllByRecursion}
use Rattle.std.specs.List.Sorted.{IsStrictlySortedBy}
use Rattle.std.specs.Ordering.{is_eq}
use Rattle.std.specs.Cmp.{Equal-is}
use Rattle.std.specs.Map.{keys_of, lookup}
use Rattle.std.specs.BTreeMap.{is_at}
use Rattle.std.specs.FinMap as finmap
use Rattle.std.specs.FinMap.{find}
use Rattle.std.specs.declared.cmp.Ordering.TheVariants.{Less}
use Rattle.fetch_refs.specs.Iter.{stands, standing}
use Rattle.fetch_refs.specs.Names.{name_cmp}
use Rattle.fetch_refs.specs.Slots.{over, each}
use Rattle.fetch_refs.proofs.Maps.{entries-sorted}
use Rattle.fetch_refs.proofs.Names.{name_cmp_total, name_cmp_exact}
use Rattle.fetch_refs.proofs.Overlays.{get-over}

module _ {X : Type 0} where
  all-stands : (P : List ℕ → Type 0) (k : List ℕ) (v : Option X) (es : List (List ℕ × X)) → P k → AllByRecursion P (keys_of es) → AllByRecursion P (keys_of (stands k v es))
  all-stands P k None es p all = all
  all-stands P k (Some x) es p all = (p, all)

  all-standing : (P : List ℕ → Type 0) (es : List (List ℕ × Option X)) → AllByRecursion P (keys_of es) → AllByRecursion P (keys_of (standing es))
  all-standing P [] all = tt
  all-standing P (e ∷ es) all = all-stands P e.0 e.1 (standing es) all.0 (all-standing P es all.1)

  sorted-stands : (k : List ℕ) (v : Option X) (es : List (List ℕ × X)) → AllByRecursion (λ y. name_cmp k y ≡ Less) (keys_of es) → IsStrictlySortedBy name_cmp (keys_of es) → IsStrictlySortedBy name_cmp (keys_of (stands k v es))
  unfolding IsStrictlySortedBy
  sorted-stands k None es below s = s
  sorted-stands k (Some x) es below s = (below, s)

  pub sorted-standing : (es : List (List ℕ × Option X)) → IsStrictlySortedBy name_cmp (keys_of es) → IsStrictlySortedBy name_cmp (keys_of (standing es))
  unfolding IsStrictlySortedBy
  sorted-standing [] s = tt
  sorted-standing (e ∷ es) s = sorted-stands e.0 e.1 (standing es) (all-standing (λ y. name_cmp e.0 y ≡ Less) es s.0) (sorted-standing es s.1)

  -- a name below all others isn't among them
  none-above : (q : List ℕ) (es : List (List ℕ × X)) → AllByRecursion (λ y. name_cmp q y ≡ Less) (keys_of es) → find name_cmp q es ≡ None
  none-above q [] all = refl
  none-above q (e ∷ es) all = ap (λ r. cond (is_eq r) (Some e.1) (find name_cmp q es)) all.0 ∙ none-above q es all.1

  at : (q k : List ℕ) (v : Option X) (es : List (List ℕ × Option X)) (b : Bool) → is_eq (name_cmp q k) ≡ b → AllByRecursion (λ y. name_cmp k y ≡ Less) (keys_of es)
      → find name_cmp q (standing es) ≡ unwrap_or (lookup (is_at (name_cmp q)) es) None
      → find name_cmp q (stands k v (standing es)) ≡ unwrap_or (cond b (Some v) (lookup (is_at (name_cmp q)) es)) None
  at q k (Some x) es true is below rest = ap (λ b. cond b (Some x) (find name_cmp q (standing es))) is
  at q k (Some x) es false is below rest = ap (λ b. cond b (Some x) (find name_cmp q (standing es))) is ∙ rest
  at q k None es true is below rest =
      ap (λ (n : List ℕ). find name_cmp n (standing es)) (name_cmp_exact q k ((Equal-is (name_cmp q k)).0 is)) ∙ none-above k (standing es) (all-standing (λ y. name_cmp k y ≡ Less) es below)
  at q k None es false is below rest = rest

  find-standing : (es : List (List ℕ × Option X)) (q : List ℕ) → IsStrictlySortedBy name_cmp (keys_of es) → find name_cmp q (standing es) ≡ unwrap_or (lookup (is_at (name_cmp q)) es) None
  unfolding IsStrictlySortedBy
  find-standing [] q s = refl
  find-standing (e ∷ es) q s = at q e.0 e.1 es (is_eq (name_cmp q e.0)) refl s.0 (find-standing es q s.1)

  pub entries-over : (es : List (List ℕ × Option X)) → IsStrictlySortedBy name_cmp (keys_of es) → finmap.entries (over finmap.empty es) ≡ standing es
  entries-over es s =
      ap finmap.entries (finmap.same_map name_cmp_total name_cmp_exact (over finmap.empty es) (finmap.from_entries (standing es)) (λ q.
      get-over finmap.empty es q ∙ ap (unwrap_or (lookup (is_at (name_cmp q)) es)) (finmap.get-empty name_cmp q) ∙ sym (find-standing es q s) ∙ sym (finmap.get-from_entries name_cmp_total (standing es) q)))
      ∙ entries-sorted name_cmp_total name_cmp_exact (standing es) (sorted-standing es s)

  pub keys-each : {S : Type 0} (f : S → Option X) (es : List (List ℕ × S)) → keys_of (each f es) ≡ keys_of es
  keys-each f [] = refl
  keys-each f (e ∷ es) = ap (λ (ks : List (List ℕ)). e.0 ∷ ks) (keys-each f es)

  pub entries-each : {S : Type 0} (f : S → Option X) (es : List (List ℕ × S)) → IsStrictlySortedBy name_cmp (keys_of es) → finmap.entries (over finmap.empty (each f es)) ≡ standing (each f es)
  entries-each f es s = entries-over (each f es) (subst (IsStrictlySortedBy name_cmp) (sym (keys-each f es)) s)

  pub entries-none : finmap.entries (finmap.empty {X = X} {R = name_cmp}) ≡ []
  unfolding IsStrictlySortedBy
  entries-none = entries-over [] tt
