-- Commits that were taken are given back.
use Rattle.std.proofs.Common.{◌≡◌, ℕ, ◌-◌, ◌<◌, ◌≤◌, Bool, true, false, cond, List, [], ◌∷◌, ◌++◌, take, drop, length, true≢false, refl, sym, ap, subst, ◌∙◌, append_assoc, arith}
use Rattle.std.specs.Prelude.{◌||◌}
use Rattle.std.specs.BTreeSet as tree
use Rattle.std.specs.BTreeSet.{BTreeSet}
use Rattle.std.specs.Cmp.{Equal-is, eq_by_cmp_equiv}
use Rattle.std.specs.FinSet as set
use Rattle.std.specs.List.{flat_map}
use Rattle.std.specs.Ordering.{eq_by_cmp}
use Rattle.std.specs.declared.cmp.Ordering.{Ordering}
use Rattle.std.proofs.lemmas.List.{length-take-le, take-append-drop, take-append-le, take_at}
use Rattle.std.proofs.lemmas.Grind.{flat_map-append}
use Rattle.fetch_base.specs.declared.id.ObjectId.{ObjectId}
use Rattle.fetch_base.specs.contracts.id.ObjectIdOrd.TheImpl as order
use Rattle.fetch_store.specs.Graph.{Graph}
use Rattle.fetch_base.specs.Id.{id_cmp}
use Rattle.fetch_base.proofs.Ids.{id_cmp_exact, id_cmp_total}
use Rattle.fetch_base.proofs.Orders.{cmp_is}
use Rattle.fetch_negotiate.specs.declared.frontier.Frontier.{Frontier}
use Rattle.fetch_negotiate.specs.declared.skips.Skips.{Skips}
use Rattle.fetch_negotiate.specs.declared.walk.HaveWalk.{HaveWalk}
use Rattle.fetch_negotiate.specs.Commits.{has}
use Rattle.fetch_negotiate.specs.Haves.{Negotiation}
use Rattle.fetch_negotiate.specs.Paired.{IsPaired}
use Rattle.fetch_negotiate.specs.Queues.{Rank, IsFrontier, IsFrontierIn, in_queue, tips_in}
use Rattle.fetch_negotiate.specs.Reading.{Table, Grows, IsTold, links_at, read_in}
use Rattle.fetch_negotiate.specs.Sharing.{IsMarked}
use Rattle.fetch_negotiate.specs.Skipped.{IsSkipping}
use Rattle.fetch_negotiate.specs.Skips.{Pairs, handing, hands, pairs_of}
use Rattle.fetch_negotiate.specs.Walking.{GoesOn, IsWalk, so_far_in}
use Rattle.fetch_negotiate.proofs.Growing.{links_grown}
use Rattle.fetch_negotiate.proofs.Handing.{told_before}
use Rattle.fetch_negotiate.proofs.Onces.{Ids, has_push}
use Rattle.fetch_negotiate.proofs.Queueing.{flat_map_same, line_grown}

-- ---- the set of those taken
abbrev LosesBy : (ObjectId → ObjectId → Ordering) → Ids → Ids → ObjectId → Type 0
LosesBy cmp s t id = (q : ObjectId) → tree.contains cmp t q ≡ cond (eq_by_cmp cmp id q) false (tree.contains cmp s q)

same : (a b : ObjectId) → eq_by_cmp id_cmp a b ≡ true → a ≡ b
same a b e = id_cmp_exact a b ((Equal-is (id_cmp a b)).0 e)

turned : (a b : ObjectId) → eq_by_cmp id_cmp a b ≡ eq_by_cmp id_cmp b a
turned = (eq_by_cmp_equiv id_cmp_total).symm

-- an id that is among the others stays
pub kept_among : (told : Ids) (others : List ObjectId) (id : ObjectId) → IsMarked told (others ++ id ∷ []) → has others id ≡ true → IsMarked told others
kept_among told others id m among = record { members = λ q. m.members q ∙ has_push others id q ∙ step q (eq_by_cmp id_cmp q id) refl }
  where
    step : (q : ObjectId) (b : Bool) → eq_by_cmp id_cmp q id ≡ b → (b || has others q) ≡ has others q
    step q true e = sym (ap (has others) (same q id e) ∙ among)
    step q false e = refl

-- another one leaves
pub lost : (told more : Ids) (others : List ObjectId) (id : ObjectId) → IsMarked told (others ++ id ∷ []) → has others id ≡ false → tree.Updates (order.ghosts).cmp told more id false → IsMarked more others
lost told more others id m apart updates =
    record { members = λ q. by q ∙ ap (cond (eq_by_cmp id_cmp id q) false) (m.members q ∙ has_push others id q) ∙ step q (eq_by_cmp id_cmp id q) refl }
  where
    by : LosesBy id_cmp told more id
    by = subst (λ (cmp : ObjectId → ObjectId → Ordering). LosesBy cmp told more id) cmp_is updates.0

    step : (q : ObjectId) (b : Bool) → eq_by_cmp id_cmp id q ≡ b → cond b false (eq_by_cmp id_cmp q id || has others q) ≡ has others q
    step q true e = sym (ap (has others) (sym (same id q e)) ∙ apart)
    step q false e = ap (λ (t : Bool). t || has others q) (turned q id ∙ e)

-- ---- one after the other
pub record IsUntaking (count : ℕ) (before now : Frontier) : Type 0 where
  pub tips : now.tips ≡ before.tips
  pub candidates : now.candidates ≡ before.candidates
  pub told : IsMarked now.told now.taken.items
  pub front : take count now.taken.items ≡ take count before.taken.items

pub front_shorter : (count : ℕ) (xs ys before : List ObjectId) → count < length xs → ys ≡ take (length xs - 1) xs → take count xs ≡ take count before → take count ys ≡ take count before
front_shorter count xs ys before less is so_far =
    let n : length (take (length xs - 1) xs) ≡ length xs - 1 = length-take-le (length xs - 1) xs (omega arith) in
    let within : count ≤ length (take (length xs - 1) xs) = omega (arith, n, less) in
    ap (take count) is ∙ sym (take-append-le count (take (length xs - 1) xs) (drop (length xs - 1) xs) within)
    ∙ ap (take count) (take-append-drop (length xs - 1) xs) ∙ so_far

pub shorter : (xs ys : List ObjectId) (count : ℕ) → count < length xs → ys ≡ take (length xs - 1) xs → length ys < length xs
shorter xs ys count less is =
    let n : length ys ≡ length xs - 1 = ap (length {A = ObjectId}) is ∙ length-take-le (length xs - 1) xs (omega arith) in
    omega (arith, n, less)

-- ---- the whole walk
abbrev front : {X : Type 0} (xs ys more : List X) → ys ≡ xs ++ more → take (length xs) ys ≡ xs
front xs ys more is = ap (take (length xs)) is ∙ take_at xs more (length xs) refl

handing_more : (g : Graph) (border : set.FinSet id_cmp) (pairs : Pairs) (taken more : List ObjectId) → handing g border pairs (taken ++ more) ≡ handing g border (handing g border pairs taken) more
handing_more g border pairs [] more = refl
handing_more g border pairs (x ∷ taken) more = handing_more g border (pairs ++ hands g border pairs x) taken more

handing_extends : (g : Graph) (border : set.FinSet id_cmp) (pairs : Pairs) (more : List ObjectId) → (rest : Pairs) × (handing g border pairs more ≡ pairs ++ rest)
handing_extends g border pairs [] = ([], sym (nothing pairs))
  where
    nothing : (ps : Pairs) → ps ++ [] ≡ ps
    nothing [] = refl
    nothing (p ∷ ps) = ap (λ (xs : Pairs). p ∷ xs) (nothing ps)
handing_extends g border pairs (x ∷ more) =
    let h = handing_extends g border (pairs ++ hands g border pairs x) more in
    (hands g border pairs x ++ h.0, h.1 ∙ append_assoc pairs (hands g border pairs x) h.0)

-- what was handed on before stands in front
pairs_before : (g : Graph) (n m : Negotiation) (more : List ObjectId) → m.tips ≡ n.tips → m.border ≡ n.border → m.taken ≡ n.taken ++ more → (rest : Pairs) × (pairs_of g m ≡ pairs_of g n ++ rest)
unfolding pairs_of
pairs_before g n m more tips border taken =
    let first : Pairs = Rattle.std.proofs.Common.map (λ tip. (tip, Rattle.fetch_negotiate.specs.Skips.no_skip)) n.tips in
    let h = handing_extends g n.border (handing g n.border first n.taken) more in (
      h.0,
      ap (λ (ts : List ObjectId). handing g m.border (Rattle.std.proofs.Common.map (λ tip. (tip, Rattle.fetch_negotiate.specs.Skips.no_skip)) ts) m.taken) tips
          ∙ ap (λ (b : set.FinSet id_cmp). handing g b first m.taken) border ∙ ap (handing g n.border first) taken ∙ handing_more g n.border first n.taken more ∙ h.1,
    )

-- What is left once it was given back: as much as there was, and what was read since.
pub record IsBack (w v x : HaveWalk) (s t u : Skips) : Type 0 where
  pub border : x.border ≡ v.border
  pub table : x.table ≡ v.table
  pub common : x.common ≡ v.common
  pub tips : x.frontier.tips ≡ v.frontier.tips
  pub candidates : x.frontier.candidates.items ≡ take (length w.frontier.candidates.items) v.frontier.candidates.items
  pub entered : x.frontier.entered ≡ 0
  pub queue : x.frontier.queue.keys ≡ []
  pub taken : x.frontier.taken.items ≡ take (length w.frontier.taken.items) v.frontier.taken.items
  pub told : IsMarked x.frontier.told x.frontier.taken.items
  pub handed : u.handed.items ≡ take (length s.handed.items) t.handed.items
  pub paired : IsPaired u

module _ (w v x : HaveWalk) (s t u : Skips) (g : Graph) (told : IsTold (read_in v.table) g) (was : IsSkipping w s) (now : IsSkipping v t) (goes : GoesOn w v) (back : IsBack w v x s t u) where
  taken_is : x.frontier.taken.items ≡ w.frontier.taken.items
  taken_is = back.taken ∙ front w.frontier.taken.items v.frontier.taken.items goes.taken.more goes.taken.is

  tips_is : v.frontier.tips ≡ w.frontier.tips
  tips_is =
      sym (length-take-le v.frontier.tips v.frontier.candidates.items now.walk.frontier.1.tips_in) ∙ ap (length {A = ObjectId}) goes.tips ∙ length-take-le w.frontier.tips w.frontier.candidates.items was.walk.frontier.1.tips_in

  abbrev links : ObjectId → List ObjectId
  links = links_at (read_in v.table) w.border

  links_same : flat_map (links_at (read_in w.table) w.border) w.frontier.taken.items ≡ flat_map links w.frontier.taken.items
  links_same = flat_map_same (links_at (read_in w.table) w.border) links w.frontier.taken.items (λ q h. sym (links_grown (read_in w.table) (read_in v.table) goes.grows w.border q (was.walk.frontier.1.known q h)))

  candidates_more : v.frontier.candidates.items ≡ w.frontier.candidates.items ++ flat_map links goes.taken.more
  candidates_more =
      now.walk.frontier.1.all
      ∙ ap (λ (ts : List ObjectId). ts ++ flat_map (links_at (read_in v.table) v.border) v.frontier.taken.items) goes.tips
      ∙ ap (λ (b : set.FinSet id_cmp). tips_in w.frontier ++ flat_map (links_at (read_in v.table) b) v.frontier.taken.items) goes.border
      ∙ ap (λ (ts : List ObjectId). tips_in w.frontier ++ flat_map links ts) goes.taken.is
      ∙ ap (λ (ts : List ObjectId). tips_in w.frontier ++ ts) (flat_map-append links w.frontier.taken.items goes.taken.more)
      ∙ sym (append_assoc (tips_in w.frontier) (flat_map links w.frontier.taken.items) (flat_map links goes.taken.more))
      ∙ ap (λ (ts : List ObjectId). (tips_in w.frontier ++ ts) ++ flat_map links goes.taken.more) (sym links_same)
      ∙ ap (λ (ts : List ObjectId). ts ++ flat_map links goes.taken.more) (sym was.walk.frontier.1.all)

  candidates_is : x.frontier.candidates.items ≡ w.frontier.candidates.items
  candidates_is = back.candidates ∙ front w.frontier.candidates.items v.frontier.candidates.items (flat_map links goes.taken.more) candidates_more

  pub so_far_back : so_far_in x ≡ so_far_in w
  so_far_back = rw (back.tips, tips_is, candidates_is, back.border, goes.border, taken_is, back.common, goes.acknowledged) refl

  no_queue : (r : Rank) → in_queue x.frontier.queue r ≡ false
  no_queue r = ap (λ (keys : List Rank). Rattle.std.specs.List.list_any (λ k. eq_by_cmp Rattle.fetch_negotiate.specs.Queues.rank_cmp r k) keys) back.queue

  line_back : IsFrontierIn (read_in v.table) v.border v.common.commits.items x.frontier
  line_back =
      let grown = line_grown (read_in w.table) (read_in v.table) w.border w.common.commits.items w.frontier.tips w.frontier.candidates.items w.frontier.entered w.frontier.queue w.frontier.taken.items goes.grows was.walk.frontier.1 in (
        back.told,
        record {
          tips_in = rw (back.tips, tips_is, candidates_is) grown.tips_in;
          entered_in = rw back.entered (omega arith);
          all = rw (back.tips, tips_is, candidates_is, taken_is, goes.border) grown.all;
          known = rw taken_is grown.known;
          each = λ q h. absurd (true≢false (sym h ∙ ap (λ (n : ℕ). has (take n x.frontier.candidates.items) q) back.entered));
          queued = λ r h. absurd (true≢false (sym h ∙ no_queue r));
        },
      )

  pub walk_back : IsWalk x
  walk_back =
      record {
        common = rw (back.table, back.border, back.common) now.walk.common;
        frontier = rw (back.table, back.border, back.common) line_back;
      }

  handed_is : u.handed.items ≡ s.handed.items
  handed_is =
      let before = pairs_before g (so_far_in w) (so_far_in v) goes.taken.more goes.tips goes.border goes.taken.is in
      back.handed
      ∙ front s.handed.items t.handed.items before.0
      (now.handed g told ∙ before.1 ∙ ap (λ (ps : Pairs). ps ++ before.0) (sym (was.handed g (told_before (read_in w.table) (read_in v.table) g goes.grows told))))

  pub skipping_back : IsSkipping x u
  skipping_back =
      record {
        walk = walk_back;
        paired = back.paired;
        handed = λ h tells.
            let here : IsTold (read_in v.table) h = subst (λ (t : Table). IsTold (read_in t) h) back.table tells in
            handed_is ∙ was.handed h (told_before (read_in w.table) (read_in v.table) h goes.grows here) ∙ ap (pairs_of h) (sym so_far_back);
      }

-- ---- a walk goes on
pub here : (w : HaveWalk) → GoesOn w w
here w =
    record {
      grows = Rattle.fetch_negotiate.proofs.Growing.grows_none (read_in w.table);
      tips = refl;
      border = refl;
      acknowledged = refl;
      taken = record { more = []; is = sym (nothing w.frontier.taken.items) };
    }
  where
    nothing : (xs : List ObjectId) → xs ++ [] ≡ xs
    nothing [] = refl
    nothing (y ∷ xs) = ap (λ (ys : List ObjectId). y ∷ ys) (nothing xs)

-- nothing was taken
pub stays_on : (w v x : HaveWalk) → GoesOn w v → Grows (read_in v.table) (read_in x.table) → so_far_in x ≡ so_far_in v → GoesOn w x
stays_on w v x goes grows same =
    record {
      grows = Rattle.fetch_negotiate.proofs.Growing.grows_then (read_in w.table) (read_in v.table) (read_in x.table) goes.grows grows;
      tips = ap (λ (n : Negotiation). n.tips) same ∙ goes.tips;
      border = ap (λ (n : Negotiation). n.border) same ∙ goes.border;
      acknowledged = ap (λ (n : Negotiation). n.acknowledged) same ∙ goes.acknowledged;
      taken = record { more = goes.taken.more; is = ap (λ (n : Negotiation). n.taken) same ∙ goes.taken.is };
    }

-- one was taken
pub goes_one : (w v x : HaveWalk) (id : ObjectId) → GoesOn w v → Grows (read_in v.table) (read_in x.table) → so_far_in x ≡ Rattle.fetch_negotiate.specs.Haves.taking (so_far_in v) (Rattle.std.proofs.Common.Some id) → GoesOn w x
goes_one w v x id goes grows same =
    record {
      grows = Rattle.fetch_negotiate.proofs.Growing.grows_then (read_in w.table) (read_in v.table) (read_in x.table) goes.grows grows;
      tips = ap (λ (n : Negotiation). n.tips) same ∙ goes.tips;
      border = ap (λ (n : Negotiation). n.border) same ∙ goes.border;
      acknowledged = ap (λ (n : Negotiation). n.acknowledged) same ∙ goes.acknowledged;
      taken = record {
        more = goes.taken.more ++ id ∷ [];
        is = ap (λ (n : Negotiation). n.taken) same ∙ ap (λ (xs : List ObjectId). xs ++ id ∷ []) goes.taken.is ∙ append_assoc w.frontier.taken.items goes.taken.more (id ∷ []);
      };
    }
