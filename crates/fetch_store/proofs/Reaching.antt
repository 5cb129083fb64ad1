-- Walks one after the other.
use Rattle.std.proofs.Common.{◌≡◌, Bool, true, false, ap, Option, None, List, [], ◌∷◌, ◌++◌, Some, All, Contains, refl, sym, subst}
use Rattle.std.specs.FinMap.{get}
use Rattle.std.specs.FinSet as set
use Rattle.std.specs.Prelude.{IsSome, IsTrue, is_some, if◌then◌else◌}
use Rattle.std.proofs.lemmas.List.Elements.{All-contains, All-contains_itself}
use Rattle.fetch_base.specs.declared.id.ObjectId.{ObjectId}
use Rattle.fetch_objects.specs.Objects.{Stored}
use Rattle.fetch_store.specs.Closed.{Holding, Grows, IsClosed, IsStored, IsWalk, Reached, links, links_within, others}
use Rattle.fetch_objects.proofs.LinkLaws.{others_from_links}

-- what holds of each id of a list holds of one that it contains
pub All-Contains : (P : ObjectId → Type 0) (xs : List ObjectId) (x : ObjectId) → All P xs → Contains xs x → P x
All-Contains P xs x all among = subst P among.2 (all among.0 x among.1)

pub walk_on : (h : Holding) (a : ObjectId) (xs : List ObjectId) (b : ObjectId) (ys : List ObjectId) (c : ObjectId) → IsWalk h a xs b → IsWalk h b ys c → IsWalk h a (xs ++ ys) c
walk_on h a [] b ys c w v = subst (λ x. IsWalk h x ys c) (sym w.1) v
walk_on h a (next ∷ xs) b ys c w v = (w.0, w.1, w.2, walk_on h next xs b ys c w.3 v)

pub reached_on : (h : Holding) (starts middles : List ObjectId) (id : ObjectId) → All (Reached h starts) middles → Reached h middles id → Reached h starts id
reached_on h starts middles id all r =
    let first = All-Contains (Reached h starts) middles r.start all r.among in
    record { start = first.start; among = first.among; rest = first.rest ++ r.rest; walk = walk_on h first.start first.rest r.start r.rest id first.walk r.walk }

pub reached_more : (h : Holding) (starts more : List ObjectId) (id : ObjectId) → All (Contains more) starts → Reached h starts id → Reached h more id
reached_more h starts more id all r = record { start = r.start; among = All-Contains (Contains more) starts r.start all r.among; rest = r.rest; walk = r.walk }

pub reached_start : (h : Holding) (starts : List ObjectId) (id : ObjectId) → Contains starts id → IsStored h.objects id → Reached h starts id
reached_start h starts id among stored = record { start = id; among = among; rest = []; walk = (stored, refl) }

pub reached_next : (h : Holding) (starts : List ObjectId) (id next : ObjectId) (o : Stored) → get h.objects id ≡ Some o → Contains (links_within h.border id o) next → IsStored h.objects next
    → Reached h starts id → Reached h starts next
reached_next h starts id next o is linked stored r =
    record { start = r.start; among = r.among; rest = r.rest ++ next ∷ []; walk = walk_on h r.start r.rest id (next ∷ []) next r.walk (o, is, linked, (stored, refl)) }

-- in a closed repository each link of what is reached is reached
pub reached_closed : (h : Holding) (starts : List ObjectId) (id next : ObjectId) (o : Stored) → IsClosed h → get h.objects id ≡ Some o → Contains (links_within h.border id o) next
    → Reached h starts id → Reached h starts next
reached_closed h starts id next o closed is linked r =
    reached_next h starts id next o is linked (All-Contains (IsStored h.objects) (links_within h.border id o) next (closed.linked id o is) linked) r

-- ---- in a store that has grown
more_links : (o : Stored) (id : ObjectId) → Contains (others o) id → Contains (links o) id
more_links o id h = All-contains (Contains (links o)) (others o) id (others_from_links (Contains (links o)) o (All-contains_itself (links o))) h

links_left : (before now : Bool) (o : Stored) (id : ObjectId) → (now ≡ true → before ≡ true) → Contains (if before then others o else links o) id → Contains (if now then others o else links o) id
links_left true true o id less h = h
links_left true false o id less h = more_links o id h
links_left false false o id less h = h
links_left false true o id less h = let no : false ≡ true = less refl in absurd (cc)

module _ (before now : Holding) (grows : Grows before.objects now.objects) (less : (id : ObjectId) → IsTrue (set.contains now.border id) → IsTrue (set.contains before.border id)) where
  stored_on : (id : ObjectId) → IsStored before.objects id → IsStored now.objects id
  stored_on id there = by_value (get before.objects id) refl there
    where
      by_value : (o : Option Stored) → get before.objects id ≡ o → IsSome o → IsStored now.objects id
      by_value None is there = absurd (cc)
      by_value (Some o) is there = ap is_some (grows.keeps id o is)

  walk_grown : (a : ObjectId) (xs : List ObjectId) (b : ObjectId) → IsWalk before a xs b → IsWalk now a xs b
  walk_grown a [] b w = (stored_on a w.0, w.1)
  walk_grown a (next ∷ rest) b w =
      (w.0, grows.keeps a w.0 w.1, links_left (set.contains before.border a) (set.contains now.border a) w.0 next (less a) w.2, walk_grown next rest b w.3)

  pub reached_grown : (starts : List ObjectId) (id : ObjectId) → Reached before starts id → Reached now starts id
  reached_grown starts id r = record { start = r.start; among = r.among; rest = r.rest; walk = walk_grown r.start r.rest id r.walk }
