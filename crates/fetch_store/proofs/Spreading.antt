-- What a walk by levels finds.
use Rattle.std.proofs.Common.{◌≡◌, ℕ, ◌+◌, ◌≤◌, ◌<◌, Bool, true, false, cond, List, [], ◌∷◌, ◌++◌, length, take, drop, Option, Some, None, refl, sym, ap, ap₂, subst, add_assoc, ◌∙◌, inl, inr, arith, Contains, append_assoc, length-append, get_or, drop-cons, add-one, sum_by}
use Rattle.std.specs.Prelude.{◌⊎◌, ◌↔◌, IsSome, is_some, IfSome}
use Rattle.std.specs.List.{IsDistinct, dedup, dedup_from}
use Rattle.std.specs.List.Sorted.{IsSorted, IsStrictlySortedBy, IsPermutation}
use Rattle.std.specs.Option.{option_map, option_map_or}
use Rattle.std.specs.Ordering.{eq_by_cmp}
use Rattle.std.specs.FinMap.{get}
use Rattle.std.specs.declared.cmp.Ordering.{Ordering}
use Rattle.std.proofs.lemmas.Bool.{cases_lt}
use Rattle.std.proofs.lemmas.Cmp.{eq_by_cmp_equiv}
use Rattle.std.proofs.lemmas.List.{append-nil, take-append-drop, get_or_append_left}
use Rattle.std.proofs.Math.Seq.{take-append_seam, take-length}
use Rattle.std.proofs.lemmas.List.Elements.{Contains-push, Contains-push_cases, Contains-append_left, Contains-append_right, Contains-append_cases}
use Rattle.std.proofs.lemmas.List.Sums.{sum_by-cons, sum_by-take-drop, sum_by-take-le}
use Rattle.std.proofs.lemmas.List.Sorted.{sum_by-IsPermutation, Contains-permutation, IsPermutation-sym}
use Rattle.std.proofs.lemmas.List.Kept.{IsStrictlySortedBy-dedup}
use Rattle.std.proofs.lemmas.Map.Keys.{IsDistinct-push, IsDistinct-head, IsDistinct-tail, IsDistinct-IsPermutation}
use Rattle.fetch_base.specs.declared.id.ObjectId.{ObjectId}
use Rattle.fetch_objects.specs.Objects.{Stored}
use Rattle.fetch_base.specs.Id.{id_cmp}
use Rattle.fetch_store.specs.Closed.{Holding, IsWalk, Reached, links_within}
use Rattle.fetch_base.specs.Distinct.{with_distinct}
use Rattle.fetch_store.specs.Spread.{Nexts, IsNext, IsOneOn, IsPath, IsWithin, looked_at, next_to, nexts_in}
use Rattle.fetch_store.specs.Found.{there, with_each, with_next}
use Rattle.fetch_store.proofs.Borders.{named, Contains-named}
use Rattle.fetch_store.proofs.Finds.{is_some-mapped}
use Rattle.fetch_base.proofs.Ids.{id_cmp_total}
use Rattle.fetch_store.proofs.IndexOf.{same_test}
use Rattle.fetch_store.proofs.Members.{first_in, later_in, cases_in, none_in, kept_in, passed_in}

not_below : (a b : ℕ) → (a < b → ⊥) → b ≤ a
not_below a b h = by_case (cases_lt a b)
  where
    by_case : (a < b) ⊎ (b ≤ a) → b ≤ a
    by_case (inl lt) = absurd (h lt)
    by_case (inr ge) = ge

-- a list with those that hold, each once
pub record Adds (P : ObjectId → Type 0) (a b : List ObjectId) : Type 0 where
  pub more : List ObjectId
  pub is : b ≡ a ++ more
  pub all : (id : ObjectId) → P id → Contains b id
  pub only : (id : ObjectId) → Contains b id → Contains a id ⊎ P id
  pub distinct : IsDistinct (eq_by_cmp id_cmp) a → IsDistinct (eq_by_cmp id_cmp) b

module _ (P : ObjectId → Type 0) where
  pub stays : (a b : List ObjectId) → Adds P a b → (id : ObjectId) → Contains a id → Contains b id
  stays a b s id h = subst (λ (xs : List ObjectId). Contains xs id) (sym s.is) (Contains-append_left a s.more id h)

  module _ (Q R : ObjectId → Type 0) where
    on_only : (a b c : List ObjectId) → Adds P a b → Adds Q b c → ((id : ObjectId) → P id ⊎ Q id → R id) → (id : ObjectId) → Contains b id ⊎ Q id → Contains a id ⊎ R id
    on_only a b c s t into id (inl h) = first (s.only id h)
      where
        first : Contains a id ⊎ P id → Contains a id ⊎ R id
        first (inl k) = inl k
        first (inr p) = inr (into id (inl p))
    on_only a b c s t into id (inr q) = inr (into id (inr q))

    on_all : (a b c : List ObjectId) → Adds P a b → Adds Q b c → ((id : ObjectId) → Contains b id → Contains c id) → (id : ObjectId) → P id ⊎ Q id → Contains c id
    on_all a b c s t kept id (inl p) = kept id (s.all id p)
    on_all a b c s t kept id (inr q) = t.all id q

    -- one after the other
    pub adds_on : (a b c : List ObjectId) → Adds P a b → Adds Q b c → ((id : ObjectId) → P id ⊎ Q id → R id) → ((id : ObjectId) → R id → P id ⊎ Q id) → Adds R a c
    adds_on a b c s t into back =
        let kept : (id : ObjectId) → Contains b id → Contains c id = λ id h. subst (λ (xs : List ObjectId). Contains xs id) (sym t.is) (Contains-append_left b t.more id h) in
        record {
          more = s.more ++ t.more;
          is = t.is ∙ ap (λ (xs : List ObjectId). xs ++ t.more) s.is ∙ append_assoc a s.more t.more;
          all = λ id r. on_all a b c s t kept id (back id r);
          only = λ id h. on_only a b c s t into id (t.only id h);
          distinct = λ d. t.distinct (s.distinct d);
        }

-- the ids from the place on
from_place : (ids : List ObjectId) (i : ℕ) (d : ObjectId) → i < length ids → drop i ids ≡ get_or ids i d ∷ drop (i + 1) ids
from_place ids i d lt = rw (add-one) (drop-cons ids i d lt)

same_at : (before found more : List ObjectId) (i : ℕ) (d : ObjectId) → i < length before → found ≡ before ++ more → get_or found i d ≡ get_or before i d
same_at before found more i d lt is = ap (λ (xs : List ObjectId). get_or xs i d) is ∙ get_or_append_left before more d i lt

abbrev pub with_one : List ObjectId → ObjectId → List ObjectId
with_one found id = with_distinct id_cmp (λ (key : ObjectId). key) found id

adds_one : (found : List ObjectId) (id : ObjectId) → Adds (λ q. id ≡ q) found (with_one found id)
adds_one found id = by_test (named id found) refl
  where
    by_test : (t : Bool) → named id found ≡ t → Adds (λ q. id ≡ q) found (cond t found (found ++ id ∷ []))
    by_test true is = record {
      more = [];
      is = sym (append-nil found);
      all = λ q same. subst (λ (x : ObjectId). Contains found x) same (Contains-named id found is);
      only = λ q h. inl h;
      distinct = λ d. d;
    }
    by_test false is = record {
      more = id ∷ [];
      is = refl;
      all = λ q same. subst (λ (x : ObjectId). Contains (found ++ id ∷ []) x) same (Contains-push found id);
      only = λ q h. Contains-push_cases found id q h;
      distinct = λ d. IsDistinct-push (eq_by_cmp_equiv id_cmp_total) found id d is;
    }

none_distinct : IsDistinct (eq_by_cmp id_cmp) []
unfolding IsDistinct
none_distinct = tt

adds_none : (P : ObjectId → Type 0) (a : List ObjectId) → ((id : ObjectId) → P id → ⊥) → Adds P a a
adds_none P a none = record { more = []; is = sym (append-nil a); all = λ id p. absurd (none id p); only = λ id h. inl h; distinct = λ d. d }

into_cons : (x : ObjectId) (xs : List ObjectId) (q : ObjectId) → (x ≡ q) ⊎ Contains xs q → Contains (x ∷ xs) q
into_cons x xs q (inl same) = subst (λ (z : ObjectId). Contains (x ∷ xs) z) same (first_in x xs)
into_cons x xs q (inr later) = later_in q x xs later

pub adds_each : (found ids : List ObjectId) → Adds (Contains ids) found (with_each found ids)
adds_each found [] = adds_none (Contains []) found (λ id h. none_in id h)
adds_each found (id ∷ ids) =
    adds_on (λ q. id ≡ q) (Contains ids) (Contains (id ∷ ids)) found (with_one found id) (with_each (with_one found id) ids) (adds_one found id) (adds_each (with_one found id) ids)
    (into_cons id ids) (λ q h. cases_in q id ids h)

module _ (nexts : Nexts) where
  abbrev pub IsNextOf : List ObjectId → ObjectId → Type 0
  IsNextOf batch to = (from : ObjectId) × Contains batch from × IsNext nexts from to

  abbrev pub IsThere : List ObjectId → ObjectId → Type 0
  IsThere ids id = Contains ids id × IsSome (nexts id)

  pub adds_there : (found ids : List ObjectId) → Adds (IsThere ids) found (with_each found (there nexts ids))
  adds_there found ids =
      let s = adds_each found (there nexts ids) in
      record {
        more = s.more;
        is = s.is;
        all = λ id p. s.all id (kept_in (λ x. is_some (nexts x)) ids id p.1 p.0);
        only = λ id h. passed id (s.only id h);
        distinct = s.distinct;
      }
    where
      passed : (id : ObjectId) → Contains found id ⊎ Contains (there nexts ids) id → Contains found id ⊎ IsThere ids id
      passed id (inl h) = inl h
      passed id (inr h) = inr (passed_in (λ x. is_some (nexts x)) ids id h)

  -- from what is listed to what is next, and back
  listed : (from : ObjectId) (o : Option (List ObjectId)) (id : ObjectId) → Contains (option_map_or (λ (ids : List ObjectId). ids) o []) id → (ids : List ObjectId) × (o ≡ Some ids) × Contains ids id
  listed from None id h = absurd (none_in id h)
  listed from (Some ids) id h = (ids, refl, h)

  is_next : (from to : ObjectId) → IsThere (next_to nexts from) to → IsNext nexts from to
  is_next from to h = let at = listed from (nexts from) to h.0 in (at.0, at.1, at.2, h.1)

  next_is : (from to : ObjectId) → IsNext nexts from to → IsThere (next_to nexts from) to
  next_is from to h = (subst (λ (o : Option (List ObjectId)). Contains (option_map_or (λ (ids : List ObjectId). ids) o []) to) (sym h.1) h.2, h.3)

  pub adds_next : (found batch : List ObjectId) → Adds (IsNextOf batch) found (with_next nexts found batch)
  adds_next found [] = adds_none (IsNextOf []) found (λ id h. none_in h.0 h.1)
  adds_next found (from ∷ batch) =
      let now = with_each found (there nexts (next_to nexts from)) in
      adds_on (IsThere (next_to nexts from)) (IsNextOf batch) (IsNextOf (from ∷ batch)) found now (with_next nexts now batch) (adds_there found (next_to nexts from)) (adds_next now batch) into back
    where
      into : (id : ObjectId) → IsThere (next_to nexts from) id ⊎ IsNextOf batch id → IsNextOf (from ∷ batch) id
      into id (inl h) = (from, first_in from batch, is_next from id h)
      into id (inr h) = (h.0, later_in h.0 from batch h.1, h.2)

      by_place : (id other : ObjectId) → IsNext nexts other id → (from ≡ other) ⊎ Contains batch other → IsThere (next_to nexts from) id ⊎ IsNextOf batch id
      by_place id other is (inl same) = inl (next_is from id (subst (λ (x : ObjectId). IsNext nexts x id) (sym same) is))
      by_place id other is (inr later) = inr (other, later, is)

      back : (id : ObjectId) → IsNextOf (from ∷ batch) id → IsThere (next_to nexts from) id ⊎ IsNextOf batch id
      back id h = by_place id h.0 h.2 (cases_in h.0 from batch h.1)

  -- one more id of a list is looked at
  each_by : (found rest : List ObjectId) (id : ObjectId) (t : Bool) → with_each (cond t (with_one found id) found) (there nexts rest) ≡ with_each found (cond t (id ∷ there nexts rest) (there nexts rest))
  each_by found rest id true = refl
  each_by found rest id false = refl

  pub each_at : (found ids : List ObjectId) (i : ℕ) (d : ObjectId) (t : Bool) (now : List ObjectId) → i < length ids → t ≡ is_some (nexts (get_or ids i d)) → now ≡ cond t (with_one found (get_or ids i d)) found
      → with_each now (there nexts (drop (i + 1) ids)) ≡ with_each found (there nexts (drop i ids))
  each_at found ids i d t now lt is added =
      ap (λ (xs : List ObjectId). with_each xs (there nexts (drop (i + 1) ids))) (added ∙ ap (λ b. cond b (with_one found (get_or ids i d)) found) is)
      ∙ each_by found (drop (i + 1) ids) (get_or ids i d) (is_some (nexts (get_or ids i d)))
      ∙ ap (λ (xs : List ObjectId). with_each found (there nexts xs)) (sym (from_place ids i d lt))

  pub each_added : (found ids : List ObjectId) (i : ℕ) (d : ObjectId) (cmp : ObjectId → ObjectId → Ordering) (now : List ObjectId) → i < length ids → true ≡ is_some (nexts (get_or ids i d)) → cmp ≡ id_cmp
      → now ≡ with_distinct cmp (λ (key : ObjectId). key) found (get_or ids i d) → with_each now (there nexts (drop (i + 1) ids)) ≡ with_each found (there nexts (drop i ids))
  each_added found ids i d cmp now lt is same added =
      each_at found ids i d true now lt is (added ∙ ap (λ (c : ObjectId → ObjectId → Ordering). with_distinct c (λ (key : ObjectId). key) found (get_or ids i d)) same)

  abbrev f : ObjectId → ℕ
  f id = length (next_to nexts id)

  -- what is next to one more id is looked at
  pub record IsLevelStep (before seen now ids : List ObjectId) (i : ℕ) : Type 0 where
    pub found : with_next nexts now (drop (i + 1) before) ≡ with_next nexts seen (drop i before)
    pub begins : (all : List ObjectId) × (now ≡ before ++ all)
    pub length : length ids + sum_by (λ id. length (next_to nexts id)) (drop (i + 1) before) ≡ sum_by (λ id. length (next_to nexts id)) (drop i before)

  pub level_step : (before found more : List ObjectId) (i : ℕ) (d : ObjectId) (slice emptied into ids now : List ObjectId) → i < length before → found ≡ before ++ more → slice ≡ found → emptied ≡ [] → into ≡ emptied ++ next_to nexts (get_or slice i d)
      → ids ≡ into → now ≡ with_each found (there nexts ids) → IsLevelStep before found now ids i
  level_step before found more i d slice emptied into ids now lt is lent empty listed passed added = record {
    found =
        ap (λ (xs : List ObjectId). with_next nexts xs (drop (i + 1) before)) (added ∙ ap (λ (xs : List ObjectId). with_each found (there nexts xs)) is_next_to)
        ∙ ap (λ (xs : List ObjectId). with_next nexts found xs) (sym (from_place before i d lt));
    begins = (more ++ s.more, added ∙ s.is ∙ ap (λ (xs : List ObjectId). xs ++ s.more) is ∙ append_assoc before more s.more);
    length = ap (λ n. n + sum_by f (drop (i + 1) before)) (ap length is_next_to) ∙ sym (sum_by-cons f (get_or before i d) (drop (i + 1) before)) ∙ ap (sum_by f) (sym (from_place before i d lt));
  }
    where
      s : Adds (IsThere ids) found (with_each found (there nexts ids))
      s = adds_there found ids

      is_next_to : ids ≡ next_to nexts (get_or before i d)
      is_next_to =
          passed ∙ listed ∙ ap (λ (xs : List ObjectId). xs ++ next_to nexts (get_or slice i d)) empty
          ∙ ap (λ (xs : List ObjectId). next_to nexts (get_or xs i d)) lent ∙ ap (next_to nexts) (same_at before found more i d lt is)

  -- ---- paths
  -- the last step of a path
  pub record IsLast (from : ObjectId) (rest : List ObjectId) (to : ObjectId) : Type 0 where
    pub before : List ObjectId
    pub at : ObjectId
    pub path : IsPath nexts from before at
    pub next : IsNext nexts at to
    pub length : length rest ≡ length before + 1

  there_from : (o : Option (List ObjectId)) (ids : List ObjectId) → o ≡ Some ids → IsSome o
  there_from o ids is = ap is_some is

  there_at : (from : ObjectId) (rest : List ObjectId) (to : ObjectId) → IsPath nexts from rest to → IsSome (nexts from)
  there_at from [] to p = p.0
  there_at from (x ∷ rest) to p = there_from (nexts from) p.0 p.1

  pub last_step : (from next : ObjectId) (rest : List ObjectId) (to : ObjectId) → IsPath nexts from (next ∷ rest) to → IsLast from (next ∷ rest) to
  last_step from next [] to p =
      record { before = []; at = from; path = (there_from (nexts from) p.0 p.1, refl); next = (p.0, p.1, subst (λ (x : ObjectId). Contains p.0 x) p.3.1 p.2, subst (λ (x : ObjectId). IsSome (nexts x)) p.3.1 p.3.0); length = omega arith }
  last_step from next (x ∷ rest) to p =
      let s = last_step next x rest to p.3 in
      record { before = next ∷ s.before; at = s.at; path = (p.0, p.1, p.2, s.path); next = s.next; length = omega (arith, s.length) }

  pub step_on : (from : ObjectId) (rest : List ObjectId) (at to : ObjectId) → IsPath nexts from rest at → IsNext nexts at to → IsPath nexts from (rest ++ to ∷ []) to
  step_on from [] at to p n = subst (λ (x : ObjectId). IsPath nexts x (to ∷ []) to) (sym p.1) (n.0, n.1, n.2, (n.3, refl))
  step_on from (x ∷ rest) at to p n = (p.0, p.1, p.2, step_on x rest at to p.3 n)

  -- ---- levels
  pub record IsSpreading (starts found : List ObjectId) (done level : ℕ) : Type 0 where
    pub sound : (id : ObjectId) → Contains found id → IsWithin nexts starts (Some level) id
    pub complete : (id : ObjectId) → IsWithin nexts starts (Some level) id → Contains found id
    pub closed : (from to : ObjectId) → Contains (take done found) from → IsNext nexts from to → Contains found to
    pub within : done ≤ length found
    pub distinct : IsDistinct (eq_by_cmp id_cmp) found

  pub spreading_begins : (starts found : List ObjectId) → found ≡ with_each [] (there nexts starts) → IsSpreading starts found 0 0
  spreading_begins starts found is = subst (λ (xs : List ObjectId). IsSpreading starts xs 0 0) (sym is) begun
    where
      s : Adds (IsThere starts) [] (with_each [] (there nexts starts))
      s = adds_there [] starts

      started : (id : ObjectId) → Contains [] id ⊎ IsThere starts id → IsWithin nexts starts (Some 0) id
      started id (inl h) = absurd (none_in id h)
      started id (inr h) = record { start = id; among = h.0; rest = []; path = (h.1, refl); few = omega arith }

      at_start : (id start : ObjectId) (rest : List ObjectId) → Contains starts start → IsPath nexts start rest id → length rest ≤ 0 → Contains (with_each [] (there nexts starts)) id
      at_start id start [] among path few = s.all id (subst (λ (x : ObjectId). IsThere starts x) path.1 (among, path.0))
      at_start id start (x ∷ rest) among path few = absurd (omega arith)

      begun : IsSpreading starts (with_each [] (there nexts starts)) 0 0
      begun = record {
        sound = λ id h. started id (s.only id h);
        complete = λ id w. at_start id w.start w.rest w.among w.path w.few;
        closed = λ from to h n. absurd (none_in from h);
        within = omega arith;
        distinct = s.distinct none_distinct;
      }

  module _ (starts found : List ObjectId) (done level : ℕ) (s : IsSpreading starts found done level) where
    abbrev after : List ObjectId
    after = with_next nexts found (drop done found)

    grown : Adds (IsNextOf (drop done found)) found after
    grown = adds_next found (drop done found)

    kept : (id : ObjectId) → Contains found id → Contains after id
    kept = stays (IsNextOf (drop done found)) found after grown

    whole : take done found ++ drop done found ≡ found
    whole = take-append-drop done found

    -- what is next to what was found is found
    nearby : (from to : ObjectId) → Contains found from → IsNext nexts from to → Contains after to
    nearby from to h n = at (Contains-append_cases (take done found) (drop done found) from (subst (λ (xs : List ObjectId). Contains xs from) (sym whole) h))
      where
        at : Contains (take done found) from ⊎ Contains (drop done found) from → Contains after to
        at (inl a) = kept to (s.closed from to a n)
        at (inr b) = grown.all to (from, b, n)

    farther : (id : ObjectId) → Contains found id ⊎ IsNextOf (drop done found) id → IsWithin nexts starts (Some (level + 1)) id
    farther id (inl h) =
        let w = s.sound id h in
        let few : length w.rest ≤ level = w.few in
        record { start = w.start; among = w.among; rest = w.rest; path = w.path; few = omega (arith, few) }
    farther id (inr h) =
        let w = s.sound h.0 (subst (λ (xs : List ObjectId). Contains xs h.0) whole (Contains-append_right (take done found) (drop done found) h.0 h.1)) in
        let few : length w.rest ≤ level = w.few in
        record { start = w.start; among = w.among; rest = w.rest ++ id ∷ []; path = step_on w.start w.rest h.0 id w.path h.2; few = omega (arith, few, length-append w.rest (id ∷ [])) }

    by_path : (id start : ObjectId) (rest : List ObjectId) → Contains starts start → IsPath nexts start rest id → length rest ≤ level + 1 → Contains after id
    by_path id start [] among path few = kept id (s.complete id (record { start = start; among = among; rest = []; path = path; few = omega arith }))
    by_path id start (x ∷ rest) among path few =
        let l = last_step start x rest id path in
        nearby l.at id (s.complete l.at (record { start = start; among = among; rest = l.before; path = l.path; few = omega (arith, l.length) })) l.next

    pub taken_after : take (length found) after ≡ found
    taken_after = ap (take (length found)) grown.is ∙ take-append_seam found grown.more

    pub spreading_on : IsSpreading starts after (length found) (level + 1)
    spreading_on = record {
      sound = λ id h. farther id (grown.only id h);
      complete = λ id w. by_path id w.start w.rest w.among w.path w.few;
      closed = λ from to h n. nearby from to (subst (λ (xs : List ObjectId). Contains xs from) taken_after h) n;
      within = omega (arith, ap length grown.is, length-append found grown.more);
      distinct = grown.distinct s.distinct;
    }

    pub spreading_at : (now : List ObjectId) (end : ℕ) → now ≡ after → end ≡ length found → IsSpreading starts now end (level + 1)
    spreading_at now end is ends = subst (λ n. IsSpreading starts now n (level + 1)) (sym ends) (subst (λ (xs : List ObjectId). IsSpreading starts xs (length found) (level + 1)) (sym is) spreading_on)

    pub looked_on : (now : List ObjectId) (end : ℕ) → now ≡ after → end ≡ length found → looked_at nexts starts (take done found) + sum_by f (drop done found) ≡ looked_at nexts starts (take end now)
    looked_on now end is ends =
        let all : take end now ≡ found = ap₂ take ends is ∙ taken_after in
        let both : sum_by f (take done found) + sum_by f (drop done found) ≡ sum_by f found = sum_by-take-drop f found done in
        add_assoc (length starts) (sum_by f (take done found)) (sum_by f (drop done found)) ∙ ap (λ n. length starts + n) both ∙ ap (looked_at nexts starts) (sym all)

    pub looked_all : (sorted : List ObjectId) → IsPermutation found sorted → looked_at nexts starts (take done found) ≤ looked_at nexts starts sorted
    looked_all sorted moved =
        let less : sum_by f (take done found) ≤ sum_by f found = sum_by-take-le f found done in
        let same : sum_by f sorted ≡ sum_by f found = sum_by-IsPermutation f found sorted moved in
        omega arith

    -- ---- the end
    at_start : (start : ObjectId) → Contains starts start → IsSome (nexts start) → Contains found start
    at_start start among here = s.complete start (record { start = start; among = among; rest = []; path = (here, refl); few = omega arith })

    along : take done found ≡ found → (from : ObjectId) (rest : List ObjectId) (to : ObjectId) → Contains found from → IsPath nexts from rest to → Contains found to
    along all from [] to h p = subst (λ (x : ObjectId). Contains found x) p.1 h
    along all from (x ∷ rest) to h p =
        along all x rest to (s.closed from x (subst (λ (xs : List ObjectId). Contains xs from) (sym all) h) (p.0, p.1, p.2, there_at x rest to p.3)) p.3

    all_found : take done found ≡ found → (limit : Option ℕ) (id : ObjectId) → IsWithin nexts starts limit id → Contains found id
    all_found all limit id w = along all w.start w.rest id (at_start w.start w.among (there_at w.start w.rest id w.path)) w.path

    taken : length found ≤ done → take done found ≡ found
    taken h = let e : done ≡ length found = omega (arith, s.within) in ap (λ n. take n found) e ∙ take-length found

    weaker : (limit : Option ℕ) (id : ObjectId) → IfSome limit (λ n. level ≤ n) → Contains found id → IsWithin nexts starts limit id
    weaker None id h here = let w = s.sound id here in record { start = w.start; among = w.among; rest = w.rest; path = w.path; few = tt }
    weaker (Some n) id h here =
        let w = s.sound id here in
        let few : length w.rest ≤ level = w.few in
        record { start = w.start; among = w.among; rest = w.rest; path = w.path; few = omega arith }

    reaches : (limit : Option ℕ) (id : ObjectId) → IfSome limit (λ n. level ≤ n) → (done < length found → IfSome limit (λ n. level < n) → ⊥) → IsWithin nexts starts limit id → Contains found id
    reaches None id h over w = all_found (taken (not_below done (length found) (λ lt. over lt tt))) None id w
    reaches (Some n) id h over w = by_level (cases_lt done (length found))
      where
        few : length w.rest ≤ n
        few = w.few

        by_level : (done < length found) ⊎ (length found ≤ done) → Contains found id
        by_level (inl lt) =
            let top : n ≤ level = not_below level n (over lt) in
            s.complete id (record { start = w.start; among = w.among; rest = w.rest; path = w.path; few = omega (arith, few) })
        by_level (inr ge) = all_found (taken ge) (Some n) id w

    pub spread_is : (limit : Option ℕ) → IfSome limit (λ n. level ≤ n) → (done < length found → IfSome limit (λ n. level < n) → ⊥) → (id : ObjectId) → Contains found id ↔ IsWithin nexts starts limit id
    spread_is limit h over id = (weaker limit id h, reaches limit id h over)

  -- one step more
  pub within_none : (starts : List ObjectId) (id : ObjectId) → IsWithin nexts starts (Some 0) id ↔ (Contains starts id × IsSome (nexts id))
  within_none starts id = (λ w. at w.start w.rest w.among w.path w.few, λ h. record { start = id; among = h.0; rest = []; path = (h.1, refl); few = omega arith })
    where
      at : (start : ObjectId) (rest : List ObjectId) → Contains starts start → IsPath nexts start rest id → length rest ≤ 0 → Contains starts id × IsSome (nexts id)
      at start [] among p few = (subst (λ (x : ObjectId). Contains starts x) p.1 among, subst (λ (x : ObjectId). IsSome (nexts x)) p.1 p.0)
      at start (x ∷ rest) among p few = absurd (omega arith)

  pub within_more : (starts : List ObjectId) (n : ℕ) (id : ObjectId) → IsWithin nexts starts (Some (n + 1)) id ↔ (IsWithin nexts starts (Some n) id ⊎ IsOneOn nexts starts n id)
  within_more starts n id = (λ w. at w.start w.rest w.among w.path w.few, back)
    where
      at : (start : ObjectId) (rest : List ObjectId) → Contains starts start → IsPath nexts start rest id → length rest ≤ n + 1 → IsWithin nexts starts (Some n) id ⊎ IsOneOn nexts starts n id
      at start [] among p few = inl (record { start = start; among = among; rest = []; path = p; few = omega arith })
      at start (x ∷ rest) among p few =
          let l = last_step start x rest id p in
          inr (l.at, record { start = start; among = among; rest = l.before; path = l.path; few = omega (arith, l.length) }, l.next)

      back : IsWithin nexts starts (Some n) id ⊎ IsOneOn nexts starts n id → IsWithin nexts starts (Some (n + 1)) id
      back (inl w) = let few : length w.rest ≤ n = w.few in record { start = w.start; among = w.among; rest = w.rest; path = w.path; few = omega (arith, few) }
      back (inr h) =
          let few : length h.1.rest ≤ n = h.1.few in
          record { start = h.1.start; among = h.1.among; rest = h.1.rest ++ id ∷ []; path = step_on h.1.start h.1.rest h.0 id h.1.path h.2; few = omega (arith, few, length-append h.1.rest (id ∷ [])) }

  pub within_some : (starts : List ObjectId) (id : ObjectId) → IsWithin nexts starts None id ↔ ((n : ℕ) × IsWithin nexts starts (Some n) id)
  within_some starts id = (
    λ w. (length w.rest, record { start = w.start; among = w.among; rest = w.rest; path = w.path; few = omega arith }),
    λ h. record { start = h.1.start; among = h.1.among; rest = h.1.rest; path = h.1.path; few = tt },
  )

-- the limit is not passed
pub few_none : (limit : Option ℕ) → IfSome limit (λ n. 0 ≤ n)
few_none None = tt
few_none (Some n) = omega arith

pub few_more : (limit : Option ℕ) (level : ℕ) → IfSome limit (λ n. level < n) → IfSome limit (λ n. level + 1 ≤ n)
few_more None level h = tt
few_more (Some n) level h = omega arith

-- ---- in order
dedup_from_distinct : (x : ObjectId) (xs : List ObjectId) → IsDistinct (eq_by_cmp id_cmp) (x ∷ xs) → dedup_from (eq_by_cmp id_cmp) x xs ≡ x ∷ xs
dedup_from_distinct x [] d = refl
dedup_from_distinct x (y ∷ ys) d =
    ap (λ b. cond b (dedup_from (eq_by_cmp id_cmp) x ys) (x ∷ dedup_from (eq_by_cmp id_cmp) y ys)) (same_test y x ∙ (IsDistinct-head (eq_by_cmp id_cmp) x (y ∷ ys) d).0)
    ∙ ap (λ (l : List ObjectId). x ∷ l) (dedup_from_distinct y ys (IsDistinct-tail (eq_by_cmp id_cmp) x (y ∷ ys) d))

dedup_distinct : (xs : List ObjectId) → IsDistinct (eq_by_cmp id_cmp) xs → dedup (eq_by_cmp id_cmp) xs ≡ xs
dedup_distinct [] d = refl
dedup_distinct (x ∷ xs) d = dedup_from_distinct x xs d

-- distinct ids in order rise
pub rises : (xs : List ObjectId) → IsDistinct (eq_by_cmp id_cmp) xs → IsSorted id_cmp xs → IsStrictlySortedBy id_cmp xs
rises xs d sorted = subst (IsStrictlySortedBy id_cmp) (dedup_distinct xs d) (IsStrictlySortedBy-dedup id_cmp_total (λ x y. refl) xs sorted)

pub in_order : (found sorted : List ObjectId) → IsPermutation found sorted → IsDistinct (eq_by_cmp id_cmp) found → IsSorted id_cmp sorted → IsStrictlySortedBy id_cmp sorted
in_order found sorted moved d order = rises sorted (IsDistinct-IsPermutation (eq_by_cmp id_cmp) same_test found sorted moved d) order

pub same_members : (P : ObjectId → Type 0) (found sorted : List ObjectId) → IsPermutation found sorted → ((id : ObjectId) → Contains found id ↔ P id) → (id : ObjectId) → Contains sorted id ↔ P id
same_members P found sorted moved is id =
    (λ h. (is id).0 (Contains-permutation sorted found id (IsPermutation-sym found sorted moved) h), λ p. Contains-permutation found sorted id moved ((is id).1 p))

-- ---- what is reached
module _ (h : Holding) where
  walk_path : (a : ObjectId) (xs : List ObjectId) (b : ObjectId) → IsWalk h a xs b → IsPath (nexts_in h) a xs b
  walk_path a [] b w = (is_some-mapped (links_within h.border a) (get h.objects a) ∙ w.0, w.1)
  walk_path a (next ∷ rest) b w = (links_within h.border a w.0, ap (option_map (links_within h.border a)) w.1, w.2, walk_path next rest b w.3)

  path_walk : (a : ObjectId) (xs : List ObjectId) (b : ObjectId) → IsPath (nexts_in h) a xs b → IsWalk h a xs b
  path_walk a [] b p = (sym (is_some-mapped (links_within h.border a) (get h.objects a)) ∙ p.0, p.1)
  path_walk a (next ∷ rest) b p = by_value (path_walk next rest b p.3) (get h.objects a) refl p.1
    where
      by_value : IsWalk h next rest b → (o : Option Stored) → get h.objects a ≡ o → option_map (links_within h.border a) o ≡ Some p.0 → IsWalk h a (next ∷ rest) b
      by_value later None is e = absurd (cc)
      by_value later (Some o) is e =
          let same : links_within h.border a o ≡ p.0 = cc in
          (o, is, subst (λ (ids : List ObjectId). Contains ids next) (sym same) p.2, later)

  pub reached_within : (starts : List ObjectId) (id : ObjectId) → IsWithin (nexts_in h) starts None id ↔ Reached h starts id
  reached_within starts id = (
    λ w. record { start = w.start; among = w.among; rest = w.rest; walk = path_walk w.start w.rest id w.path },
    λ r. record { start = r.start; among = r.among; rest = r.rest; path = walk_path r.start r.rest id r.walk; few = tt },
  )

  pub reached_some : (starts : List ObjectId) (id : ObjectId) → Reached h starts id ↔ ((n : ℕ) × IsWithin (nexts_in h) starts (Some n) id)
  reached_some starts id =
      (λ r. (within_some (nexts_in h) starts id).0 ((reached_within starts id).1 r), λ w. (reached_within starts id).0 ((within_some (nexts_in h) starts id).1 w))
