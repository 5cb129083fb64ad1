-- What a pack's lines make of a border.
use Rattle.std.proofs.Common.{◌≡◌, ◌⊎◌, Bool, true, false, not, ◌&&◌, ◌||◌, List, All, inl, inr, refl, sym, ap, ap₂, ◌∙◌}
use Rattle.std.specs.Prelude.{if◌then◌else◌}
use Rattle.std.specs.List.{list_any}
use Rattle.std.specs.Ordering.{eq_by_cmp}
use Rattle.std.specs.FinSet as set
use Rattle.fetch_base.specs.declared.id.ObjectId.{ObjectId}
use Rattle.fetch_objects.specs.Objects.{Stored}
use Rattle.fetch_base.specs.Id.{id_cmp}
use Rattle.fetch_base.proofs.Ids.{id_cmp_total}
use Rattle.fetch_store.specs.Borders.{IdSet, merged}
use Rattle.fetch_store.specs.Closed.{links, others, parents, links_within}
use Rattle.fetch_store.specs.Honest.{Pack}
use Rattle.fetch_objects.proofs.LinkLaws.{others_from_links, links_from_both}

abbrev pub named : ObjectId → List ObjectId → Bool
named q ids = list_any (eq_by_cmp id_cmp q) ids

pub contains-merged : (b : IdSet) (p : Pack) (q : ObjectId) → set.contains (merged b p.shallow p.unshallow) q ≡ ((set.contains b q || named q p.shallow) && not (named q p.unshallow))
contains-merged b p q =
    set.contains-difference id_cmp_total (set.union b (set.from_list p.shallow)) (set.from_list p.unshallow) q
    ∙ ap₂ (λ x y. x && not y)
    (set.contains-union id_cmp_total b (set.from_list p.shallow) q ∙ ap (λ x. set.contains b q || x) (set.contains-from_list id_cmp_total p.shallow q))
    (set.contains-from_list id_cmp_total p.unshallow q)

-- a border with one set and then without another
pub contains-within : (b s u : IdSet) (q : ObjectId) (v : Bool) → v ≡ (set.contains b q || set.contains s q) → (v && not (set.contains u q)) ≡ set.contains (set.difference (set.union b s) u) q
contains-within b s u q v is =
    ap (λ x. x && not (set.contains u q)) (is ∙ sym (set.contains-union id_cmp_total b s q)) ∙ sym (set.contains-difference id_cmp_total (set.union b s) u q)

-- an id of the merged border stood in the border, or a shallow line names it
pub merged_cases : (b : IdSet) (p : Pack) (q : ObjectId) → set.contains (merged b p.shallow p.unshallow) q ≡ true → (set.contains b q ≡ true) ⊎ (named q p.shallow ≡ true)
merged_cases b p q is = split (set.contains b q) (named q p.shallow) (not (named q p.unshallow)) (sym (contains-merged b p q) ∙ is)
  where
    split : (x y z : Bool) → ((x || y) && z) ≡ true → (x ≡ true) ⊎ (y ≡ true)
    split true y z h = inl refl
    split false true z h = inr refl
    split false false z h = absurd cc

-- an id that leaves the border is named by an unshallow line
pub merged_left : (b : IdSet) (p : Pack) (q : ObjectId) → set.contains b q ≡ true → set.contains (merged b p.shallow p.unshallow) q ≡ false → named q p.unshallow ≡ true
merged_left b p q was is = split (set.contains b q) (named q p.shallow) (named q p.unshallow) was (sym (contains-merged b p q) ∙ is)
  where
    split : (x y z : Bool) → x ≡ true → ((x || y) && not z) ≡ false → z ≡ true
    split true y true w h = refl
    split true y false w h = absurd cc
    split false y z w h = absurd cc

-- the same lines differ over two borders only where the borders do
pub merged_moved : (a b : IdSet) (p : Pack) (q : ObjectId) → set.contains (merged a p.shallow p.unshallow) q ≡ true → set.contains (merged b p.shallow p.unshallow) q ≡ false → (set.contains a q ≡ true) × (set.contains b q ≡ false)
merged_moved a b p q was is =
    split (set.contains a q) (set.contains b q) (named q p.shallow) (named q p.unshallow) (sym (contains-merged a p q) ∙ was) (sym (contains-merged b p q) ∙ is)
  where
    split : (x w y z : Bool) → ((x || y) && not z) ≡ true → ((w || y) && not z) ≡ false → (x ≡ true) × (w ≡ false)
    split true false y z h k = (refl, refl)
    split true true y true h k = absurd cc
    split true true y false h k = absurd cc
    split false w true true h k = absurd cc
    split false true true false h k = absurd cc
    split false false true false h k = absurd cc
    split false w false z h k = absurd cc

-- the links within one border, from those within another
pub within_moved : (P : ObjectId → Type 0) (a b : IdSet) (id : ObjectId) (o : Stored) → (set.contains a id ≡ true → set.contains b id ≡ false → All P (parents o)) → All P (links_within a id o) → All P (links_within b id o)
within_moved P a b id o moved all = by_tests (set.contains a id) (set.contains b id) refl refl all
  where
    by_tests : (x y : Bool) → set.contains a id ≡ x → set.contains b id ≡ y → All P (if x then others o else links o) → All P (if y then others o else links o)
    by_tests true true e f h = h
    by_tests true false e f h = links_from_both P o h (moved e f)
    by_tests false true e f h = others_from_links P o h
    by_tests false false e f h = h
