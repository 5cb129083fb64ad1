-- What the windows of a negotiation tell, all together.
use Rattle.std.proofs.Common.{◌≡◌, ℕ, zero, suc, ◌+◌, ◌*◌, ◌<◌, ◌≤◌, Bool, true, false, List, [], ◌∷◌, ◌++◌, length, Option, Some, None, true≢false, refl, sym, ap, subst, ◌∙◌, arith, append_assoc, append-nil, length-append}
use Rattle.std.specs.Prelude.{is_some, ◌||◌, nat_lt}
use Rattle.std.specs.FinMap as map
use Rattle.std.specs.FinSet as set
use Rattle.std.specs.List.{All, AllByRecursion, IsDistinct, list_any}
use Rattle.std.specs.Option.{option_and_then}
use Rattle.std.specs.Ordering.{eq_by_cmp}
use Rattle.std.specs.Cmp.{eq_by_cmp_equiv}
use Rattle.std.proofs.lemmas.Bool.Decides.{nat_tests}
use Rattle.std.proofs.lemmas.List.Elements.{All-append, All-from_recursion, recursion_from_All}
use Rattle.fetch_base.specs.declared.id.ObjectId.{ObjectId}
use Rattle.fetch_store.specs.Graph.{Graph, Node}
use Rattle.fetch_base.specs.Id.{id_cmp}
use Rattle.fetch_base.proofs.Ids.{id_cmp_total}
use Rattle.fetch_store.proofs.Pigeons.{no_more, are_distinct}
use Rattle.fetch_refs.proofs.Walks.{distinct_more}
use Rattle.fetch_negotiate.specs.declared.algorithm.Algorithm.{Algorithm}
use Rattle.fetch_negotiate.specs.declared.algorithm.Algorithm.TheVariants as algorithms
use Rattle.fetch_negotiate.specs.declared.algorithm.Round.{Round}
use Rattle.fetch_negotiate.specs.Any.{begun, offer_of, sharing}
use Rattle.fetch_negotiate.specs.Commits.{IsStoredCommit, has, commit_in, commit_of}
use Rattle.fetch_negotiate.specs.Haves.{Negotiation, taking, next_taken}
use Rattle.fetch_negotiate.specs.Rounds.{AreRounds, haves_in, sharing_all}
use Rattle.fetch_negotiate.specs.Sharing.{Covers}
use Rattle.fetch_negotiate.specs.Skips.{Offer}
use Rattle.fetch_negotiate.specs.Windows.{Window, beginning, window_of, first_size, next_size}
use Rattle.fetch_negotiate.proofs.Counting.{IsNew, covers_push, new_none, new_some, not_covered, offered_new}

same_turned : (p q : ObjectId) → eq_by_cmp id_cmp p q ≡ eq_by_cmp id_cmp q p
same_turned = (eq_by_cmp_equiv id_cmp_total).symm

met_is : (ids : List ObjectId) (id : ObjectId) → list_any (λ m. eq_by_cmp id_cmp m id) ids ≡ has ids id
met_is [] id = refl
met_is (x ∷ ids) id = ap (λ b. b || list_any (λ m. eq_by_cmp id_cmp m id) ids) (same_turned x id) ∙ ap (λ b. eq_by_cmp id_cmp id x || b) (met_is ids id)

module _ (g : Graph) (algorithm : Algorithm) where
  -- what an algorithm offers is a stored commit, and wasn't taken before
  offer_new : (n : Negotiation) → IsNew g n (offer_of g algorithm n)
  offer_new n = at algorithm
    where
      next : (o : Option ObjectId) → next_taken g n ≡ o → IsNew g n (record { later = taking n o; have = o })
      next None e = subst (λ (l : List ObjectId). IsNew g n (record { later = record n { taken = l }; have = None })) (sym (append-nil n.taken)) (new_none g n)
      next (Some id) e = new_some g n id e

      at : (a : Algorithm) → IsNew g n (offer_of g a n)
      at algorithms.Noop = new_none g n
      at algorithms.Consecutive = next (next_taken g n) refl
      at algorithms.Skipping = offered_new g n

  -- What was told so far: stored commits, each once, and each was taken.
  pub record IsSoFar (n : Negotiation) (told : List ObjectId) : Type 0 where
    pub distinct : IsDistinct (eq_by_cmp id_cmp) told
    pub stored : All (IsStoredCommit g) told
    pub covered : Covers told n.taken

  one_of : (id : ObjectId) → IsStoredCommit g id → All (IsStoredCommit g) (id ∷ [])
  one_of id h = All-from_recursion (IsStoredCommit g) (id ∷ []) (h, tt)

  more_told : (n later : Negotiation) (told : List ObjectId) (id : ObjectId) → IsSoFar n told → IsNew g n (record { later = later; have = Some id }) → IsSoFar later (told ++ id ∷ [])
  more_told n later told id s new =
      record {
        distinct = distinct_more (eq_by_cmp id_cmp) told id s.distinct (met_is told id ∙ not_covered told n.taken id s.covered new.fresh);
        stored = All-append (IsStoredCommit g) told (id ∷ []) s.stored (one_of id new.stored);
        covered = covers_push told n.taken later.taken id s.covered new.more new.taken;
      }

  none_told : (n later : Negotiation) (told : List ObjectId) → IsSoFar n told → Covers n.taken later.taken → IsSoFar later told
  none_told n later told s more = record { distinct = s.distinct; stored = s.stored; covered = record { stays = λ q h. more.stays q (s.covered.stays q h) } }

  pub window_told : (size : ℕ) (n : Negotiation) (told : List ObjectId) → IsSoFar n told → IsSoFar (window_of g algorithm size n).later (told ++ (window_of g algorithm size n).haves)
  unfolding window_of
  window_told zero n told s = subst (IsSoFar n) (sym (append-nil told)) s
  window_told (suc more) n told s = at (offer_of g algorithm n).have (offer_of g algorithm n).later (offer_new n) (λ m l. window_told more m l)
    where
      at : (o : Option ObjectId) (later : Negotiation) → IsNew g n (record { later = later; have = o })
          → ((m : Negotiation) (l : List ObjectId) → IsSoFar m l → IsSoFar (window_of g algorithm more m).later (l ++ (window_of g algorithm more m).haves))
          → IsSoFar (beginning o later (window_of g algorithm more)).later (told ++ (beginning o later (window_of g algorithm more)).haves)
      at None later new rest = subst (IsSoFar later) (sym (append-nil told)) (none_told n later told s new.more)
      at (Some id) later new rest =
          subst (IsSoFar (window_of g algorithm more later).later) (append_assoc told (id ∷ []) (window_of g algorithm more later).haves)
          (rest later (told ++ id ∷ []) (more_told n later told id s new))

  -- what is acknowledged changes nothing of what was taken
  shared_taken : (ids : List ObjectId) (n : Negotiation) → (sharing_all algorithm n ids).taken ≡ n.taken
  shared_taken [] n = refl
  shared_taken (id ∷ ids) n = shared_taken ids (sharing algorithm n id) ∙ one algorithm
    where
      one : (a : Algorithm) → (sharing a n id).taken ≡ n.taken
      one algorithms.Noop = refl
      one algorithms.Consecutive = refl
      one algorithms.Skipping = refl

  after_sharing : (ids : List ObjectId) (n : Negotiation) (told : List ObjectId) → IsSoFar n told → IsSoFar (sharing_all algorithm n ids) told
  after_sharing ids n told s = record { distinct = s.distinct; stored = s.stored; covered = subst (λ (l : List ObjectId). Covers told l) (sym (shared_taken ids n)) s.covered }

  pub rounds_told : (rounds : List Round) (size : ℕ) (n : Negotiation) (told : List ObjectId) → AreRounds g algorithm size n rounds → IsSoFar n told
      → IsDistinct (eq_by_cmp id_cmp) (told ++ haves_in rounds) × All (IsStoredCommit g) (told ++ haves_in rounds)
  rounds_told [] size n told are s = subst (λ (l : List ObjectId). IsDistinct (eq_by_cmp id_cmp) l × All (IsStoredCommit g) l) (sym (append-nil told)) (s.distinct, s.stored)
  rounds_told (r ∷ rounds) size n told are s =
      let w : Window = window_of g algorithm size n in
      let all = rounds_told rounds (next_size size) (sharing_all algorithm w.later r.acknowledged) (told ++ w.haves) are.1 (after_sharing r.acknowledged w.later (told ++ w.haves) (window_told size n told s)) in
      subst (λ (l : List ObjectId). IsDistinct (eq_by_cmp id_cmp) l × All (IsStoredCommit g) l)
      (append_assoc told w.haves (haves_in rounds) ∙ ap (λ (l : List ObjectId). told ++ (l ++ haves_in rounds)) (sym are.0.haves)) all

  nothing_told : (tips : List ObjectId) (border : set.FinSet id_cmp) → IsSoFar (begun algorithm tips border) []
  unfolding IsDistinct
  nothing_told tips border = record { distinct = tt; stored = All-from_recursion (IsStoredCommit g) [] tt; covered = record { stays = λ q h. absurd (true≢false (sym h)) } }

  pub all_told : (tips : List ObjectId) (border : set.FinSet id_cmp) (rounds : List Round) → AreRounds g algorithm first_size (begun algorithm tips border) rounds
      → IsDistinct (eq_by_cmp id_cmp) (haves_in rounds) × All (IsStoredCommit g) (haves_in rounds)
  all_told tips border rounds are = rounds_told rounds first_size (begun algorithm tips border) [] are (nothing_told tips border)

  -- ---- full windows
  not_less : (a b : ℕ) → nat_lt a b ≡ false → b ≤ a
  not_less a b h = grind (arith, nat_tests)

  at_least : (size : ℕ) → 16 ≤ size → 16 ≤ next_size size
  at_least size h = omega arith

  open_full : (size : ℕ) (r : Round) → 16 ≤ size → r.done ≡ nat_lt (length r.haves) size → r.done ≡ false → 16 ≤ length r.haves
  open_full size r h is going = let le = not_less (length r.haves) size (sym is ∙ going) in omega arith

  full_each : (rounds : List Round) (size : ℕ) (n : Negotiation) → 16 ≤ size → AreRounds g algorithm size n rounds → AllByRecursion (λ (r : Round). r.done ≡ false → 16 ≤ length r.haves) rounds
  full_each [] size n h are = tt
  full_each (r ∷ rounds) size n h are =
      (open_full size r h are.0.done, full_each rounds (next_size size) (sharing_all algorithm (window_of g algorithm size n).later r.acknowledged) (at_least size h) are.1)

  pub are_full : (rounds : List Round) (size : ℕ) (n : Negotiation) → 16 ≤ size → AreRounds g algorithm size n rounds → All (λ (r : Round). r.done ≡ false → 16 ≤ length r.haves) rounds
  are_full rounds size n h are = All-from_recursion (λ (r : Round). r.done ≡ false → 16 ≤ length r.haves) rounds (full_each rounds size n h are)

  many_haves : (rounds : List Round) → AllByRecursion (λ (r : Round). r.done ≡ false → 16 ≤ length r.haves) rounds → AllByRecursion (λ (r : Round). r.done ≡ false) rounds → 16 * length rounds ≤ length (haves_in rounds)
  many_haves [] full going = omega arith
  many_haves (r ∷ rounds) full going =
      let here = full.0 going.0 in
      let rest = many_haves rounds full.1 going.1 in
      let sum : length (haves_in (r ∷ rounds)) ≡ length r.haves + length (haves_in rounds) = length-append r.haves (haves_in rounds) in
      omega arith

  is_stored : (id : ObjectId) → IsStoredCommit g id → map.contains_key g id ≡ true
  unfolding commit_of
  is_stored id h = node (map.get g id) h
    where
      node : (o : Option Node) → is_some (option_and_then commit_in o) ≡ true → is_some o ≡ true
      node None h = h
      node (Some n) h = refl

  are_stored : (ids : List ObjectId) → AllByRecursion (IsStoredCommit g) ids → AllByRecursion (λ id. map.contains_key g id ≡ true) ids
  are_stored [] each = tt
  are_stored (id ∷ ids) each = (is_stored id each.0, are_stored ids each.1)

  pub are_few : (tips : List ObjectId) (border : set.FinSet id_cmp) (rounds : List Round) → AreRounds g algorithm first_size (begun algorithm tips border) rounds → All (λ (r : Round). r.done ≡ false) rounds → 16 * length rounds ≤ map.len g
  are_few tips border rounds are going =
      let told = all_told tips border rounds are in
      let few : length (haves_in rounds) ≤ map.len g =
      no_more (haves_in rounds) g (are_distinct (haves_in rounds) told.0) (are_stored (haves_in rounds) (recursion_from_All (IsStoredCommit g) (haves_in rounds) told.1)) in
      let many = many_haves rounds (full_each rounds first_size (begun algorithm tips border) (omega arith) are) (recursion_from_All (λ (r : Round). r.done ≡ false) rounds going) in
      omega arith
