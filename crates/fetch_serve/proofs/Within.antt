-- Where steps lead, as a list.
use Rattle.std.proofs.Common.{◌≡◌, ℕ, zero, suc, ◌+◌, List, [], ◌∷◌, Option, Some, None, refl, sym, ap, ◌∙◌, subst, arith, inl, inr, Contains}
use Rattle.std.specs.Prelude.{◌↔◌, IsSome, is_some}
use Rattle.std.specs.FinMap as finmap
use Rattle.std.specs.List.{flat_map}
use Rattle.std.specs.List.Sorted.{IsStrictlySortedBy}
use Rattle.std.specs.Option.{option_map_or}
use Rattle.std.proofs.lemmas.List.Kept.{IsStrictlySortedBy-filter}
use Rattle.fetch_store.specs.Found.{there}
use Rattle.fetch_store.specs.Graph.{Graph}
use Rattle.fetch_store.specs.Spread.{Nexts, IsNext, IsPath, IsWithin, next_to}
use Rattle.fetch_base.specs.Id.{id_cmp}
use Rattle.fetch_base.specs.declared.id.ObjectId.{ObjectId}
use Rattle.fetch_store.proofs.Borders.{named-Contains, Contains-named}
use Rattle.fetch_store.proofs.Keys.{keys-rise}
use Rattle.fetch_store.proofs.Members.{cases_in, none_in}
use Rattle.fetch_store.proofs.Pigeons.{AreDistinct, AreStored, no_more}
use Rattle.fetch_store.proofs.Spreading.{within_more, within_none}
use Rattle.fetch_serve.specs.Depths.{led_to, led_within, steps_for}
use Rattle.fetch_asked.specs.Requests.{has_id}
use Rattle.fetch_serve.proofs.Lists.{same_ids}
use Rattle.fetch_serve.proofs.Reached.{filtered, in_either, in_first, in_second, keeps, met, of_one, one_of}

-- ---- a number of steps

listed : (o : Option (List ObjectId)) (id : ObjectId) → Contains (option_map_or (λ (ids : List ObjectId). ids) o []) id → (ids : List ObjectId) × (o ≡ Some ids) × Contains ids id
listed None id h = absurd (none_in id h)
listed (Some ids) id h = (ids, refl, h)

is_next : (nexts : Nexts) (from id : ObjectId) → Contains (next_to nexts from) id → IsSome (nexts id) → IsNext nexts from id
is_next nexts from id h here = let at = listed (nexts from) id h in (at.0, at.1, at.2, here)

next_is : (nexts : Nexts) (from id : ObjectId) → IsNext nexts from id → Contains (next_to nexts from) id
next_is nexts from id h = subst (λ (o : Option (List ObjectId)). Contains (option_map_or (λ (ids : List ObjectId). ids) o []) id) (sym h.1) h.2

module _ (nexts : Nexts) (starts : List ObjectId) where
  -- what is listed for a number of steps is where so many steps lead
  pub led_is : (n : ℕ) (id : ObjectId) → Contains (led_within nexts starts n) id → IsWithin nexts starts (Some n) id
  unfolding led_within
  led_is zero id h = (within_none nexts starts id).1 (filtered (λ x. is_some (nexts x)) id starts h)
  led_is (suc n) id h =
      let e : n + 1 ≡ suc n = omega arith in
      subst (λ (m : ℕ). IsWithin nexts starts (Some m) id) e ((within_more nexts starts n id).1 (elim (in_either id (led_within nexts starts n) (there nexts (flat_map (next_to nexts) (led_within nexts starts n))) h) [
        | inl before ↦ inl (led_is n id before)
        | inr now ↦
            (let f = filtered (λ x. is_some (nexts x)) id (flat_map (next_to nexts) (led_within nexts starts n)) now in
            let o = of_one (next_to nexts) id (led_within nexts starts n) f.0 in
            inr (o.0, led_is n o.0 o.1, is_next nexts o.0 id o.2 f.1))
      ]))

  pub is_led : (n : ℕ) (id : ObjectId) → IsWithin nexts starts (Some n) id → Contains (led_within nexts starts n) id
  unfolding led_within
  is_led zero id w = let h = (within_none nexts starts id).0 w in keeps (λ x. is_some (nexts x)) id starts h.0 h.1
  is_led (suc n) id w =
      let e : suc n ≡ n + 1 = omega arith in
      elim ((within_more nexts starts n id).0 (subst (λ (m : ℕ). IsWithin nexts starts (Some m) id) e w)) [
        | inl before ↦ in_first id (led_within nexts starts n) (there nexts (flat_map (next_to nexts) (led_within nexts starts n))) (is_led n id before)
        | inr now ↦
            in_second id (led_within nexts starts n) (there nexts (flat_map (next_to nexts) (led_within nexts starts n)))
            (keeps (λ x. is_some (nexts x)) id (flat_map (next_to nexts) (led_within nexts starts n))
            (one_of (next_to nexts) now.0 id (led_within nexts starts n) (is_led n now.0 now.1) (next_is nexts now.0 id now.2)) now.2.3)
      ]

-- ---- paths that come to no id twice

module _ (nexts : Nexts) where
  record IsSimple (from to : ObjectId) : Type 0 where
    rest : List ObjectId
    path : IsPath nexts from rest to
    apart : AreDistinct (from ∷ rest)

  suffix : (a : ObjectId) (xs : List ObjectId) (to b : ObjectId) → IsPath nexts a xs to → AreDistinct (a ∷ xs) → Contains (a ∷ xs) b → IsSimple b to
  suffix a [] to b p apart among =
      elim (cases_in b a [] among) [ inl same ↦ subst (λ x. IsSimple x to) same (record { rest = []; path = p; apart = apart }) | inr later ↦ absurd (none_in b later) ]
  suffix a (next ∷ xs) to b p apart among =
      elim (cases_in b a (next ∷ xs) among) [
        | inl same ↦ subst (λ x. IsSimple x to) same (record { rest = next ∷ xs; path = p; apart = apart })
        | inr later ↦ suffix next xs to b p.3 apart.1 later
      ]

  simple : (from : ObjectId) (rest : List ObjectId) (to : ObjectId) → IsPath nexts from rest to → IsSimple from to
  simple from [] to p = record { rest = []; path = p; apart = (tt, tt) }
  simple from (next ∷ rest) to p =
      let s = simple next rest to p.3 in
      elim (met from (next ∷ s.rest)) [
        | inl again ↦ suffix next s.rest to from s.path s.apart again
        | inr apart ↦ record { rest = next ∷ s.rest; path = (p.0, p.1, p.2, s.path); apart = (apart, s.apart) }
      ]

  there_at : (from : ObjectId) (rest : List ObjectId) (to : ObjectId) → IsPath nexts from rest to → IsSome (nexts from)
  there_at from [] to p = p.0
  there_at from (next ∷ rest) to p = ap is_some p.1

  -- something is at the end of a path
  pub there_last : (from : ObjectId) (rest : List ObjectId) (to : ObjectId) → IsPath nexts from rest to → IsSome (nexts to)
  there_last from [] to p = subst (λ (x : ObjectId). IsSome (nexts x)) p.1 p.0
  there_last from (next ∷ rest) to p = there_last next rest to p.3

  pub within_there : (starts : List ObjectId) (limit : Option ℕ) (id : ObjectId) → IsWithin nexts starts limit id → IsSome (nexts id)
  within_there starts limit id w = there_last w.start w.rest id w.path

  module _ (history : Graph) (known : (id : ObjectId) → IsSome (nexts id) → IsSome (finmap.get history id)) where
    all_known : (from : ObjectId) (rest : List ObjectId) (to : ObjectId) → IsPath nexts from rest to → AreStored history (from ∷ rest)
    all_known from [] to p = (known from p.0, tt)
    all_known from (next ∷ rest) to p = (known from (there_at from (next ∷ rest) to p), all_known next rest to p.3)

    -- no more steps are taken than there are objects
    in_time : (starts : List ObjectId) (id : ObjectId) → IsWithin nexts starts None id → IsWithin nexts starts (Some (finmap.len history)) id
    in_time starts id w =
        let s = simple w.start w.rest id w.path in
        let few = no_more (w.start ∷ s.rest) history s.apart (all_known w.start s.rest id s.path) in
        record { start = w.start; among = w.among; rest = s.rest; path = s.path; few = omega arith }

    soon : (starts : List ObjectId) (limit : Option ℕ) (id : ObjectId) → IsWithin nexts starts limit id → IsWithin nexts starts (Some (steps_for history limit)) id
    soon starts None id w = in_time starts id w
    soon starts (Some n) id w = w

    ever : (starts : List ObjectId) (limit : Option ℕ) (id : ObjectId) → IsWithin nexts starts (Some (steps_for history limit)) id → IsWithin nexts starts limit id
    ever starts None id w = record { start = w.start; among = w.among; rest = w.rest; path = w.path; few = tt }
    ever starts (Some n) id w = w

    -- the list has each commit to which steps lead
    pub led_to_is : (starts : List ObjectId) (limit : Option ℕ) (id : ObjectId) → Contains (led_to history nexts starts limit) id ↔ IsWithin nexts starts limit id
    unfolding led_to
    led_to_is starts limit id =
        let n = steps_for history limit in (
          λ h. (let f = filtered (λ id. has_id id (led_within nexts starts n)) id (finmap.keys history) h in
              ever starts limit id (led_is nexts starts n id (Contains-named id (led_within nexts starts n) f.1))),
          λ w. (let key : Contains (finmap.keys history) id = Contains-named id (finmap.keys history) (sym (finmap.contains_key-keys history id) ∙ known id (within_there starts limit id w)) in
              keeps (λ id. has_id id (led_within nexts starts n)) id (finmap.keys history) key (named-Contains id (led_within nexts starts n) (is_led nexts starts n id (soon starts limit id w)))),
        )

    -- an ascending list of these is that list
    pub led_list : (starts : List ObjectId) (limit : Option ℕ) (ids : List ObjectId) → IsStrictlySortedBy id_cmp ids → ((id : ObjectId) → Contains ids id ↔ IsWithin nexts starts limit id) → IsStrictlySortedBy id_cmp (led_to history nexts starts limit)
        → ids ≡ led_to history nexts starts limit
    led_list starts limit ids rise each rises =
        same_ids ids (led_to history nexts starts limit) rise rises (λ id h. (led_to_is starts limit id).1 ((each id).0 h)) (λ id h. (each id).1 ((led_to_is starts limit id).0 h))

pub led_to_rises : (history : Graph) (nexts : Nexts) (starts : List ObjectId) (limit : Option ℕ) → IsStrictlySortedBy id_cmp (led_to history nexts starts limit)
unfolding led_to
led_to_rises history nexts starts limit =
    IsStrictlySortedBy-filter id_cmp (λ id. has_id id (led_within nexts starts (steps_for history limit))) (finmap.keys history) (keys-rise history)

-- each of the list is one of the map
pub led_to_known : (history : Graph) (nexts : Nexts) (starts : List ObjectId) (limit : Option ℕ) (id : ObjectId) → Contains (led_to history nexts starts limit) id → Contains (finmap.keys history) id
unfolding led_to
led_to_known history nexts starts limit id h = (filtered (λ id. has_id id (led_within nexts starts (steps_for history limit))) id (finmap.keys history) h).0
