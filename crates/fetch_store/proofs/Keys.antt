-- The keys of a map of objects, in ascending order.
use Rattle.std.proofs.Common.{◌≡◌, Bool, true, false, ◌&&◌, T, List, [], ◌∷◌, map, Ordering, Less, Equal, Greater, refl, sym, ap, ◌∙◌}
use Rattle.std.specs.Prelude.{is_some}
use Rattle.std.specs.List.{AllByRecursion}
use Rattle.std.specs.List.Sorted.{IsStrictlySortedBy}
use Rattle.std.specs.Ordering.{is_lt}
use Rattle.std.specs.FinMap.{FinMap, entries, entries_sorted, is_sorted, keys, contains_key-keys}
use Rattle.std.specs.FinMap.Entries.{below_all, is_some-find}
use Rattle.std.specs.FinSet as set
use Rattle.fetch_base.specs.declared.id.ObjectId.{ObjectId}
use Rattle.fetch_store.specs.Stores.{Entries, map_of}
use Rattle.fetch_base.specs.Id.{id_cmp}
use Rattle.fetch_store.specs.Borders.{set_of, ids_of}
use Rattle.fetch_base.proofs.Ids.{id_cmp_total, id_cmp_exact}
use Rattle.fetch_store.proofs.Finds.{get-map_of}
use Rattle.fetch_store.proofs.Borders.{ids_of-set}

halves : (a b : Bool) → T (a && b) → T a × T b
halves true b h = (tt, h)
halves false b h = absurd h

less : (o : Ordering) → T (is_lt o) → o ≡ Less
less Less h = refl
less Equal h = absurd h
less Greater h = absurd h

module _ {X : Type 0} where
  firsts : List (ObjectId × X) → List ObjectId
  firsts es = map (λ e. e.0) es

  above : (k : ObjectId) (es : List (ObjectId × X)) → T (below_all id_cmp k es) → AllByRecursion (λ y. id_cmp k y ≡ Less) (map (λ e. e.0) es)
  above k [] h = tt
  above k (e ∷ es) h =
      let both = halves (is_lt (id_cmp k e.0)) (below_all id_cmp k es) h in (less (id_cmp k e.0) both.0, above k es both.1)

  rising : (es : List (ObjectId × X)) → T (is_sorted id_cmp es) → IsStrictlySortedBy id_cmp (map (λ e. e.0) es)
  unfolding IsStrictlySortedBy
  rising [] h = tt
  rising (e ∷ es) h =
      let both = halves (below_all id_cmp e.0 es) (is_sorted id_cmp es) h in (above e.0 es both.0, rising es both.1)

  pub keys-rise : (m : FinMap id_cmp X) → IsStrictlySortedBy id_cmp (keys m)
  keys-rise m = rising (entries m) (entries_sorted m)

-- an ascending list with a map's ids is the list of its keys
pub keys_are : (es : Entries) (ids : List ObjectId) → IsStrictlySortedBy id_cmp ids → set_of ids ≡ set_of (map (λ e. e.0) es) → ids ≡ keys (map_of es)
keys_are es ids rise same =
    let mine : set_of (map (λ e. e.0) es) ≡ set_of (keys (map_of es)) =
    set.same_set id_cmp_total id_cmp_exact (set_of (map (λ e. e.0) es)) (set_of (keys (map_of es))) (λ q.
    set.contains-from_list id_cmp_total (map (λ e. e.0) es) q ∙ sym (is_some-find id_cmp q es) ∙ ap is_some (sym (get-map_of es q))
    ∙ contains_key-keys (map_of es) q ∙ sym (set.contains-from_list id_cmp_total (keys (map_of es)) q)) in
    sym (ids_of-set ids rise) ∙ ap ids_of (same ∙ mine) ∙ ids_of-set (keys (map_of es)) (keys-rise (map_of es))
