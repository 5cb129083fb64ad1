-- Pairs that are handed on.
use Rattle.std.proofs.Common.{◌≡◌, ℕ, ◌+◌, ◌<◌, Bool, true, false, not, List, [], ◌∷◌, ◌++◌, map, take, get_or, length, Option, Some, true≢false, refl, sym, ap, ◌∙◌, arith}
use Rattle.std.specs.Prelude.{is_some, Result, Ok, Err, IfOk, OnOk, OnErr, ◌||◌, ◌==◌}
use Rattle.std.specs.FinSet as set
use Rattle.std.specs.List.{list_any}
use Rattle.std.proofs.lemmas.List.{take_more}
use Rattle.std.proofs.lemmas.List.Folds.{list_any-append}
use Rattle.fetch_base.specs.declared.error.NoMemory.{NoMemory}
use Rattle.fetch_base.specs.declared.id.ObjectId.{ObjectId}
use Rattle.fetch_store.specs.Graph.{Graph}
use Rattle.fetch_base.specs.Id.{id_cmp}
use Rattle.fetch_negotiate.specs.declared.commits.Commit.{Commit}
use Rattle.fetch_negotiate.specs.declared.skip.Skip.{Skip}
use Rattle.fetch_negotiate.specs.declared.skips.Skips.{Skips}
use Rattle.fetch_negotiate.specs.declared.walk.HaveWalk.{HaveWalk}
use Rattle.fetch_negotiate.specs.Ancestors.{links_of}
use Rattle.fetch_negotiate.specs.Commits.{has, commit_of}
use Rattle.fetch_negotiate.specs.Haves.{Negotiation, started, taking, acknowledging}
use Rattle.fetch_negotiate.specs.Reading.{Read, Table, Grows, IsTold, commit_at, links_at, read_in}
use Rattle.fetch_negotiate.specs.Paired.{IsPaired}
use Rattle.fetch_negotiate.specs.Sharing.{Covers}
use Rattle.fetch_negotiate.specs.Skipped.{IsSkipping, AnyStored, HasParents, IsOffered}
use Rattle.fetch_negotiate.specs.Skips.{Pairs, no_skip, handed, hands, handing, has_parents, is_offered, offers, pair_of, pairs_of}
use Rattle.fetch_negotiate.specs.Walking.{IsWalk, so_far_in}
use Rattle.fetch_negotiate.proofs.Choosing.{links_told}
use Rattle.fetch_negotiate.proofs.Commons.{common_in_grown}
use Rattle.fetch_negotiate.proofs.Growing.{read_of}
use Rattle.fetch_negotiate.proofs.Queueing.{line_in_grown}

-- ---- the definition, one commit further
handing_push : (g : Graph) (border : set.FinSet id_cmp) (pairs : Pairs) (taken : List ObjectId) (id : ObjectId) → handing g border pairs (taken ++ id ∷ []) ≡ handing g border pairs taken ++ hands g border (handing g border pairs taken) id
handing_push g border pairs [] id = refl
handing_push g border pairs (x ∷ taken) id = handing_push g border (pairs ++ hands g border pairs x) taken id

pub pairs_push : (g : Graph) (n : Negotiation) (id : ObjectId) → pairs_of g (taking n (Some id)) ≡ pairs_of g n ++ hands g n.border (pairs_of g n) id
unfolding pairs_of
pairs_push g n id = handing_push g n.border (map (λ tip. (tip, no_skip)) n.tips) n.taken id

-- ---- what was read, for each graph that tells it
pub told_before : (k l : Read) (g : Graph) → Grows k l → IsTold l g → IsTold k g
told_before k l g grows told = record { told = λ id found is. told.told id found (grows.stays id found is) }

pub walk_grown : (w : HaveWalk) (t : Table) → Grows (read_in w.table) (read_in t) → IsWalk w → IsWalk (record w { table = t })
walk_grown w t grows walk =
    record {
      common = common_in_grown (read_in w.table) (read_in t) w.border w.common grows walk.common;
      frontier = line_in_grown (read_in w.table) (read_in t) w.border w.common.commits.items w.frontier grows walk.frontier;
    }

stored_says : (k : Read) (g h : Graph) (id : ObjectId) → k id ≡ Some (commit_of h id) → IsTold k g → is_some (commit_of g id) ≡ is_some (commit_of h id)
stored_says k g h id found told = ap (λ (c : Option Commit). is_some c) (told.told id (commit_of h id) found)

-- none of the first ids is a stored commit
pub record NoneStored (k : Read) (ids : List ObjectId) : Type 0 where
  pub says : (g : Graph) → IsTold k g → list_any (λ id. is_some (commit_of g id)) ids ≡ false

pub none_first : (k : Read) → NoneStored k []
none_first k = record { says = λ g told. refl }

any_push : (p : ObjectId → Bool) (ids : List ObjectId) (i : ℕ) (d : ObjectId) → i < length ids → list_any p (take (i + 1) ids) ≡ (list_any p (take i ids) || p (get_or ids i d))
any_push p ids i d lt = ap (list_any p) (take_more ids i d lt) ∙ list_any-append p (take i ids) (get_or ids i d ∷ []) ∙ ap (λ b. list_any p (take i ids) || b) (last (p (get_or ids i d)))
  where
    last : (b : Bool) → (b || false) ≡ b
    last true = refl
    last false = refl

pub none_further : (k l : Read) (h : Graph) (ids : List ObjectId) (i : ℕ) (d : ObjectId) (stored : Bool) → i < length ids → Grows k l → l (get_or ids i d) ≡ Some (commit_of h (get_or ids i d)) → stored ≡ is_some (commit_of h (get_or ids i d)) → stored ≡ false
    → NoneStored k (take i ids) → NoneStored l (take (i + 1) ids)
none_further k l h ids i d stored lt grows found is apart none =
    record {
      says = λ g told.
          any_push (λ id. is_some (commit_of g id)) ids i d lt ∙ ap (λ b. b || is_some (commit_of g (get_or ids i d))) (none.says g (told_before k l g grows told))
          ∙ stored_says l g h (get_or ids i d) found told ∙ sym is ∙ apart;
    }

any_at : (p : ObjectId → Bool) (ids : List ObjectId) (i : ℕ) (d : ObjectId) → i < length ids → p (get_or ids i d) ≡ true → list_any p ids ≡ true
any_at p [] i d lt h = absurd (omega arith)
any_at p (x ∷ ids) i d lt h = grind (arith, any_at p ids)

pub any_found : (l : Read) (h : Graph) (ids : List ObjectId) (i : ℕ) (d : ObjectId) (stored : Bool) → i < length ids → l (get_or ids i d) ≡ Some (commit_of h (get_or ids i d)) → stored ≡ is_some (commit_of h (get_or ids i d)) → stored ≡ true → AnyStored l ids true
any_found l h ids i d stored lt found is so =
    record { says = λ g told. sym (any_at (λ id. is_some (commit_of g id)) ids i d lt (stored_says l g h (get_or ids i d) found told ∙ sym is ∙ so)) }

pub any_none : (k : Read) (ids : List ObjectId) → NoneStored k ids → AnyStored k ids false
any_none k ids none = record { says = λ g told. sym (none.says g told) }

-- ---- parents
pub parents_says : (k l : Read) (border : set.FinSet id_cmp) (id : ObjectId) (links : List ObjectId) (any : Bool) → Grows k l → is_some (commit_at k id) ≡ true → links ≡ links_at k border id → AnyStored l links any → HasParents l border id any
parents_says k l border id links any grows read is stored =
    record { says = λ g told. stored.says g told ∙ ap (list_any (λ p. is_some (commit_of g p))) (is ∙ sym (links_told k g (told_before k l g grows told) border id (read_of k id read))) }

pub offered_always : (k : Read) (border : set.FinSet id_cmp) (skip : Skip) (id : ObjectId) → skip.left ≡ 0 → IsOffered k border skip id true
offered_always k border skip id none = record { says = λ g told. sym (ap (λ (n : ℕ). n == 0 || not (has_parents g border id)) none) }

pub offered_by : (k : Read) (border : set.FinSet id_cmp) (skip : Skip) (id : ObjectId) (any : Bool) → (skip.left == 0) ≡ false → HasParents k border id any → IsOffered k border skip id (not any)
offered_by k border skip id any some parents = record { says = λ g told. ap not (parents.says g told) ∙ sym (ap (λ b. b || not (has_parents g border id)) some) }

-- ---- a commit is taken, and its pair handed on
pub handed_on : (g : Graph) (n : Negotiation) (id : ObjectId) (pairs now : Pairs) (skip : Skip) (offered : Bool) (links : List ObjectId) → pairs ≡ pairs_of g n → skip ≡ pair_of pairs id → offered ≡ is_offered g n.border skip id → links ≡ links_of g n.border id
    → now ≡ pairs ++ map (λ p. (p, handed offered skip)) links → now ≡ pairs_of g (taking n (Some id))
handed_on g n id pairs now skip offered links are is says of more =
    let same : skip ≡ pair_of (pairs_of g n) id = is ∙ ap (λ (l : Pairs). pair_of l id) are in
    more ∙ ap (λ (l : Pairs). l ++ map (λ p. (p, handed offered skip)) links) are
    ∙ ap (λ (l : Pairs). pairs_of g n ++ l)
    (ap (λ (b : Bool). map (λ p. (p, handed b skip)) links) says ∙ ap (λ (s : Skip). map (λ p. (p, handed (is_offered g n.border s id) s)) links) same ∙ ap (λ (l : List ObjectId). map (λ p. (p, handed (is_offered g n.border (pair_of (pairs_of g n) id) id) (pair_of (pairs_of g n) id))) l) of)
    ∙ sym (pairs_push g n id)

pub offers_by : (g : Graph) (n : Negotiation) (id : ObjectId) (pairs : Pairs) (skip : Skip) (offered : Bool) → pairs ≡ pairs_of g n → skip ≡ pair_of pairs id → offered ≡ is_offered g n.border skip id → offered ≡ offers g n id
unfolding offers
offers_by g n id pairs skip offered are is says = says ∙ ap (λ (s : Skip). is_offered g n.border s id) (is ∙ ap (λ (l : Pairs). pair_of l id) are)

pub ok_parents : (k l : Read) (border : set.FinSet id_cmp) (id : ObjectId) (links : List ObjectId) (r : Result Bool NoMemory) → Grows k l → is_some (commit_at k id) ≡ true → links ≡ links_at k border id → IfOk r (AnyStored l links)
    → IfOk r (HasParents l border id)
ok_parents k l border id links (Ok any) grows read is stored = parents_says k l border id links any grows read is stored
ok_parents k l border id links (Err e) grows read is stored = tt

-- ---- before the first commit, and once an id was acknowledged
pub pairs_started : (g : Graph) (n : Negotiation) (tips : List ObjectId) (border : set.FinSet id_cmp) → n ≡ started tips border → map (λ tip. (tip, no_skip)) tips ≡ pairs_of g n
unfolding pairs_of
pairs_started g n tips border e = sym (ap (λ (m : Negotiation). handing g m.border (map (λ tip. (tip, no_skip)) m.tips) m.taken) e)

pub pairs_shared : (g : Graph) (n m : Negotiation) (id : ObjectId) (r : Result (Unit {0}) NoMemory) → OnOk r (m ≡ acknowledging n id) → OnErr r (m ≡ n) → pairs_of g n ≡ pairs_of g m
unfolding pairs_of
pairs_shared g n m id (Ok u) ok err = sym (ap (λ (m : Negotiation). handing g m.border (map (λ tip. (tip, no_skip)) m.tips) m.taken) ok)
pairs_shared g n m id (Err e) ok err = sym (ap (λ (m : Negotiation). handing g m.border (map (λ tip. (tip, no_skip)) m.tips) m.taken) err)

pub taken_shared : (n m : Negotiation) (id : ObjectId) (r : Result (Unit {0}) NoMemory) → OnOk r (m ≡ acknowledging n id) → OnErr r (m ≡ n) → m.taken ≡ n.taken
taken_shared n m id (Ok u) ok err = ap (λ (m : Negotiation). m.taken) ok
taken_shared n m id (Err e) ok err = ap (λ (m : Negotiation). m.taken) err

pub covers_nothing : (xs ys : List ObjectId) → xs ≡ [] → Covers xs ys
covers_nothing xs ys e = record { stays = λ q h. absurd (true≢false (sym h ∙ ap (λ (l : List ObjectId). has l q) e)) }

-- nothing was taken, and more may have been read
pub still : (w v : HaveWalk) (s t : Skips) → IsSkipping w s → IsWalk v → IsPaired t → Grows (read_in w.table) (read_in v.table) → t.handed.items ≡ s.handed.items → so_far_in v ≡ so_far_in w → IsSkipping v t
still w v s t was walk paired grows same so_far =
    record {
      walk = walk;
      paired = paired;
      handed = λ g told. same ∙ was.handed g (told_before (read_in w.table) (read_in v.table) g grows told) ∙ ap (λ (n : Negotiation). pairs_of g n) (sym so_far);
    }

pub linked : (g : Graph) (b border : set.FinSet id_cmp) (id : ObjectId) (links : List ObjectId) → links_of g b id ≡ links → b ≡ border → links ≡ links_of g border id
linked g b border id links found same = sym found ∙ ap (λ (x : set.FinSet id_cmp). links_of g x id) same
