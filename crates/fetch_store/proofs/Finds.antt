-- The first entry of an id, in a list and in its map.
use Rattle.std.proofs.Common.{◌≡◌, ℕ, suc, ◌+◌, ◌<◌, Bool, true, false, cond, ◌∷◌, length, get_or, drop, drop-cons, add-one, Option, Some, None, Bor, refl, sym, ap, ◌∙◌}
use Rattle.std.specs.Prelude.{is_some, option_map}
use Rattle.std.specs.Option.{option_copied}
use Rattle.std.specs.Ordering.{eq_by_cmp, is_eq}
use Rattle.std.specs.Cmp.{Equal-is, tied_itself}
use Rattle.std.specs.FinMap.{find, get, get-from_entries}
use Rattle.fetch_base.specs.declared.id.ObjectId.{ObjectId}
use Rattle.fetch_objects.specs.Objects.{Stored}
use Rattle.fetch_store.specs.Stores.{Entries, map_of}
use Rattle.fetch_base.specs.Id.{id_cmp}
use Rattle.fetch_base.proofs.Ids.{id_cmp_total, id_cmp_exact}

pub ties : (a b : ObjectId) → a ≡ b → eq_by_cmp id_cmp a b ≡ true
ties a b same = ap (eq_by_cmp id_cmp a) (sym same) ∙ ap is_eq (tied_itself id_cmp_total a)

differs : (a b : ObjectId) (t : Bool) → eq_by_cmp id_cmp a b ≡ t → (a ≡ b → ⊥) → t ≡ false
differs a b true is other = absurd (other (id_cmp_exact a b ((Equal-is (id_cmp a b)).0 is)))
differs a b false is other = refl

pub not_tied : (a b : ObjectId) → (a ≡ b → ⊥) → eq_by_cmp id_cmp a b ≡ false
not_tied a b other = differs a b (eq_by_cmp id_cmp a b) refl other

-- the entries from the one at i on
pub from : (es : Entries) (i : ℕ) (e : ObjectId × Stored) → i < length es → e ≡ get_or es i e → drop i es ≡ e ∷ drop (i + 1) es
from es i e lt is = rw (add-one) (drop-cons es i e lt ∙ ap (λ (x : ObjectId × Stored). x ∷ drop (suc i) es) (sym is))

pub found_at : (id : ObjectId) (es : Entries) (i : ℕ) (e : ObjectId × Stored) → i < length es → e ≡ get_or es i e → id ≡ e.0 → find id_cmp id (drop i es) ≡ Some e.1
found_at id es i e lt is same = ap (find id_cmp id) (from es i e lt is) ∙ ap (λ b. cond b (Some e.1) (find id_cmp id (drop (i + 1) es))) (ties id e.0 same)

pub passed_at : (id : ObjectId) (es : Entries) (i : ℕ) (e : ObjectId × Stored) → i < length es → e ≡ get_or es i e → (id ≡ e.0 → ⊥) → find id_cmp id (drop i es) ≡ find id_cmp id (drop (i + 1) es)
passed_at id es i e lt is other = ap (find id_cmp id) (from es i e lt is) ∙ ap (λ b. cond b (Some e.1) (find id_cmp id (drop (i + 1) es))) (not_tied id e.0 other)

pub get-map_of : (es : Entries) (id : ObjectId) → get (map_of es) id ≡ find id_cmp id es
get-map_of es id = get-from_entries id_cmp_total es id

pub is_some-copied : {X : Type 0} (o : Option (Bor X)) → is_some o ≡ is_some (option_copied o)
is_some-copied None = refl
is_some-copied (Some x) = refl

pub is_some-mapped : {X Y : Type 0} (f : X → Y) (o : Option X) → is_some (option_map f o) ≡ is_some o
is_some-mapped f None = refl
is_some-mapped f (Some x) = refl
