-- The marks of common commits, step by step.
use Rattle.std.proofs.Common.{◌≡◌, ℕ, zero, suc, ◌+◌, ◌<◌, ◌≤◌, Bool, true, false, cond, List, [], ◌∷◌, ◌++◌, take, get_or, length, Option, Some, true≢false, refl, sym, ap, subst, ◌∙◌, append_assoc, length-append, arith}
use Rattle.std.specs.Prelude.{is_some, ◌||◌}
use Rattle.std.specs.BTreeSet.{BTreeSet}
use Rattle.std.specs.FinSet as set
use Rattle.std.specs.Ordering.{eq_by_cmp}
use Rattle.std.specs.Cmp.{Equal-is}
use Rattle.std.proofs.lemmas.List.{take-append-le, get_or_append_left}
use Rattle.fetch_base.specs.declared.id.ObjectId.{ObjectId}
use Rattle.fetch_base.specs.Id.{id_cmp}
use Rattle.fetch_base.proofs.Ids.{id_cmp_exact}
use Rattle.fetch_store.proofs.Finds.{ties}
use Rattle.fetch_negotiate.specs.Commits.{has}
use Rattle.fetch_store.specs.Graph.{Graph}
use Rattle.fetch_negotiate.specs.declared.common.Common.{Common}
use Rattle.fetch_negotiate.specs.declared.commits.Commit.{Commit}
use Rattle.fetch_negotiate.specs.Reading.{Read, Grows, IsTold, commit_at, links_at}
use Rattle.std.specs.Option.{option_and_then}
use Rattle.fetch_negotiate.specs.Sharing.{IsMarked, IsDone, IsReached, IsCommon, IsFinished, AreDone, IsWithin, AreWithin, IsCommonIn, Extends, Covers}
use Rattle.fetch_negotiate.proofs.Growing.{reached_grown, done_grown, commit_stays, links_grown, commit_from_link, grows_then, grows_none}
use Rattle.fetch_negotiate.proofs.Onces.{Adds, has_push, grown}

or_left : (a b : Bool) → a ≡ true → (a || b) ≡ true
or_left true b h = refl
or_left false b h = absurd (true≢false (sym h))

or_right : (a b : Bool) → b ≡ true → (a || b) ≡ true
or_right true b h = refl
or_right false b h = h

-- either is the id, or was there
pub split : (P : ObjectId → Type 0) (id q : ObjectId) (rest : Bool) → P id → (rest ≡ true → P q) → (eq_by_cmp id_cmp q id || rest) ≡ true → P q
split P id q rest here there h = at (eq_by_cmp id_cmp q id) refl h
  where
    at : (b : Bool) → eq_by_cmp id_cmp q id ≡ b → (b || rest) ≡ true → P q
    at true e h = subst P (sym (id_cmp_exact q id ((Equal-is (id_cmp q id)).0 e))) here
    at false e h = there h

onward : (b c d : Bool) → (c ≡ true → d ≡ true) → (b || c) ≡ true → (b || d) ≡ true
onward true c d f h = refl
onward false c d f h = f h

pub has_append : (xs ys : List ObjectId) (q : ObjectId) → has xs q ≡ true → has (xs ++ ys) q ≡ true
has_append [] ys q h = absurd (true≢false (sym h))
has_append (x ∷ xs) ys q h = onward (eq_by_cmp id_cmp q x) (has xs q) (has (xs ++ ys) q) (has_append xs ys q) h

pub extended : (xs ys : List ObjectId) → Extends xs ys → (q : ObjectId) → has xs q ≡ true → has ys q ≡ true
extended xs ys e q h = ap (λ (l : List ObjectId). has l q) e.is ∙ has_append xs e.more q h

pub covers : (xs ys : List ObjectId) → Extends xs ys → Covers xs ys
covers xs ys e = record { stays = extended xs ys e }

pub covers_none : (xs : List ObjectId) → Covers xs xs
covers_none xs = record { stays = λ q h. h }

pub extends_none : (xs : List ObjectId) → Extends xs xs
extends_none xs = record { more = []; is = sym (none xs) }
  where
    none : (l : List ObjectId) → l ++ [] ≡ l
    none [] = refl
    none (x ∷ l) = ap (λ (m : List ObjectId). x ∷ m) (none l)

pub extends_then : (xs ys zs : List ObjectId) → Extends xs ys → Extends ys zs → Extends xs zs
extends_then xs ys zs a b = record { more = a.more ++ b.more; is = b.is ∙ ap (λ (l : List ObjectId). l ++ b.more) a.is ∙ append_assoc xs a.more b.more }

pub marked_push : (s t : BTreeSet ObjectId) (commits : List ObjectId) (id : ObjectId) → IsMarked s commits → Adds s t id → IsMarked t (commits ++ id ∷ [])
marked_push s t commits id m adds = record { members = λ q. adds.elsewhere q ∙ ap (λ b. eq_by_cmp id_cmp q id || b) (m.members q) ∙ sym (has_push commits id q) }

pub done_more : (k : Read) (xs ys : List ObjectId) → Extends xs ys → (q : ObjectId) → IsDone k xs q → IsDone k ys q
done_more k xs ys e q d = record { read = d.read; marked = λ h. extended xs ys e q (d.marked h) }

pub has_take : (n : ℕ) (xs : List ObjectId) (q : ObjectId) → has (take n xs) q ≡ true → has xs q ≡ true
has_take zero xs q h = absurd (true≢false (sym h))
has_take (suc n) [] q h = h
has_take (suc n) (x ∷ xs) q h = onward (eq_by_cmp id_cmp q x) (has (take n xs) q) (has xs q) (has_take n xs q) h

pub has_one : (q : ObjectId) → has (q ∷ []) q ≡ true
has_one q = or_left (eq_by_cmp id_cmp q q) false (ties q q refl)

pub take_all : (xs : List ObjectId) (n : ℕ) → length xs ≤ n → take n xs ≡ xs
take_all [] zero h = refl
take_all [] (suc n) h = refl
take_all (x ∷ xs) zero h = absurd (omega arith)
take_all (x ∷ xs) (suc n) h = ap (λ (l : List ObjectId). x ∷ l) (take_all xs n (omega arith))

pub common_grown : (k l : Read) (border : set.FinSet id_cmp) (acknowledged : List ObjectId) (finished : ℕ) (commits : List ObjectId) (closed : ℕ) → Grows k l
    → IsCommon k border acknowledged finished commits closed → IsCommon l border acknowledged finished commits closed
common_grown k l border acknowledged finished commits closed grows c =
    record {
      finished_in = c.finished_in;
      closed_in = c.closed_in;
      stored = λ q h. commit_stays k l grows q (c.stored q h);
      reached = λ q h. reached_grown k l grows border acknowledged q (c.reached q h);
      told = λ q h. done_grown k l grows commits q (c.told q h);
      parents = λ q h p link. done_grown k l grows commits p (c.parents q h p (sym (ap (λ (ls : List ObjectId). has ls p) (links_grown k l grows border q (c.stored q (has_take closed commits q h)))) ∙ link));
    }

-- one more marked commit
pub common_push : (k : Read) (border : set.FinSet id_cmp) (acknowledged : List ObjectId) (finished : ℕ) (commits : List ObjectId) (closed : ℕ) (id : ObjectId)
    → is_some (commit_at k id) ≡ true → IsReached k border acknowledged id
    → IsCommon k border acknowledged finished commits closed → IsCommon k border acknowledged finished (commits ++ id ∷ []) closed
common_push k border acknowledged finished commits closed id stored reached c =
    record {
      finished_in = c.finished_in;
      closed_in = at_most c.closed_in;
      stored = λ q h. split (λ x. is_some (commit_at k x) ≡ true) id q (has commits q) stored (c.stored q) (sym (has_push commits id q) ∙ h);
      reached = λ q h. split (λ x. IsReached k border acknowledged x) id q (has commits q) reached (c.reached q) (sym (has_push commits id q) ∙ h);
      told = λ q h. done_more k commits (commits ++ id ∷ []) extends q (c.told q h);
      parents = λ q h p link. done_more k commits (commits ++ id ∷ []) extends p (c.parents q (sym (ap (λ (l : List ObjectId). has l q) (front c.closed_in)) ∙ h) p link);
    }
  where
    extends : Extends commits (commits ++ id ∷ [])
    extends = record { more = id ∷ []; is = refl }

    at_most : closed ≤ length commits → closed ≤ length (commits ++ id ∷ [])
    at_most inside = omega (arith, length-append commits (id ∷ []))

    front : closed ≤ length commits → take closed (commits ++ id ∷ []) ≡ take closed commits
    front inside = take-append-le closed commits (id ∷ []) inside

-- the parents of one more commit are marked
pub common_close : (k : Read) (border : set.FinSet id_cmp) (acknowledged : List ObjectId) (finished : ℕ) (commits : List ObjectId) (closed : ℕ) (d id : ObjectId) (ids : List ObjectId)
    → closed < length commits → id ≡ get_or commits closed d → ids ≡ links_at k border id → AreDone k commits ids
    → IsCommon k border acknowledged finished commits closed → IsCommon k border acknowledged finished commits (closed + 1)
common_close k border acknowledged finished commits closed d id ids lt is links done c =
    record {
      finished_in = c.finished_in;
      closed_in = omega arith;
      stored = c.stored;
      reached = c.reached;
      told = c.told;
      parents = λ q h. split (λ x. (p : ObjectId) → has (links_at k border x) p ≡ true → IsDone k commits p) id q (has (take closed commits) q)
          (λ p link. done.each p (ap (λ (l : List ObjectId). has l p) links ∙ link)) (c.parents q)
          (sym (ap (λ (l : List ObjectId). has l q) (grown commits closed d id lt is) ∙ has_push (take closed commits) id q) ∙ h);
    }

-- one more acknowledged id is marked
pub common_finish : (k : Read) (border : set.FinSet id_cmp) (acknowledged : List ObjectId) (finished : ℕ) (commits : List ObjectId) (closed : ℕ) (d id : ObjectId)
    → finished < length acknowledged → id ≡ get_or acknowledged finished d → AreDone k commits (id ∷ [])
    → IsCommon k border acknowledged finished commits closed → IsCommon k border acknowledged (finished + 1) commits closed
common_finish k border acknowledged finished commits closed d id lt is done c =
    record {
      finished_in = omega arith;
      closed_in = c.closed_in;
      stored = c.stored;
      reached = c.reached;
      told = λ q h. split (λ x. IsDone k commits x) id q (has (take finished acknowledged) q) (done.each id (has_one id)) (c.told q)
          (sym (ap (λ (l : List ObjectId). has l q) (grown acknowledged finished d id lt is) ∙ has_push (take finished acknowledged) id q) ∙ h);
      parents = c.parents;
    }

-- nothing is left to mark
pub common_whole : (k : Read) (border : set.FinSet id_cmp) (acknowledged : List ObjectId) (finished : ℕ) (commits : List ObjectId) (closed : ℕ)
    → length acknowledged ≤ finished → length commits ≤ closed → IsCommon k border acknowledged finished commits closed → IsFinished k border acknowledged commits
common_whole k border acknowledged finished commits closed all each c =
    record {
      stored = c.stored;
      reached = c.reached;
      told = λ q h. c.told q (ap (λ (l : List ObjectId). has l q) (take_all acknowledged finished all) ∙ h);
      parents = λ q h. c.parents q (ap (λ (l : List ObjectId). has l q) (take_all commits closed each) ∙ h);
    }

-- ---- what is within
pub within_grown : (k l : Read) (border : set.FinSet id_cmp) (acknowledged : List ObjectId) (id : ObjectId) → Grows k l → IsWithin k border acknowledged id → IsWithin l border acknowledged id
within_grown k l border acknowledged id grows w = record { later = λ m more stored. w.later m (grows_then k l m grows more) stored }

pub within_acknowledged : (k : Read) (border : set.FinSet id_cmp) (acknowledged : List ObjectId) (id : ObjectId) → has acknowledged id ≡ true → IsWithin k border acknowledged id
within_acknowledged k border acknowledged id h = record { later = λ l more stored. record { holds = λ P start step. start id h } }

-- the parents of a marked commit
pub within_links : (k : Read) (border : set.FinSet id_cmp) (acknowledged : List ObjectId) (x : ObjectId) (ids : List ObjectId) → IsReached k border acknowledged x → ids ≡ links_at k border x → AreWithin k border acknowledged ids
within_links k border acknowledged x ids reached links =
    record {
      each = λ q h. record {
        later = λ l more stored. record {
          holds = λ P start step.
              let link : has (links_at k border x) q ≡ true = sym (ap (λ (ls : List ObjectId). has ls q) links) ∙ h in
              step x q ((reached_grown k l more border acknowledged x reached).holds P start step)
              (ap (λ (ls : List ObjectId). has ls q) (links_grown k l more border x (commit_from_link k border x q link)) ∙ link) stored;
        };
      };
    }

pub one_done : (k : Read) (commits : List ObjectId) (id : ObjectId) → IsDone k commits id → AreDone k commits (id ∷ [])
one_done k commits id d = record { each = λ q h. split (λ x. IsDone k commits x) id q false d (λ e. absurd (true≢false (sym e))) h }

pub found_at : (o : Option (Option Commit)) (c : Option Commit) → o ≡ Some c → option_and_then (λ (c : Option Commit). c) o ≡ c
found_at o c is = ap (λ (o : Option (Option Commit)). option_and_then (λ (c : Option Commit). c) o) is

-- ---- one id
pub done_absent : (k : Read) (commits : List ObjectId) (id : ObjectId) (c : Option Commit) → k id ≡ Some c → is_some c ≡ false → IsDone k commits id
done_absent k commits id c is none =
    record {
      read = ap (λ (o : Option (Option Commit)). is_some o) is;
      marked = λ h. absurd (true≢false (sym h ∙ ap (λ (c : Option Commit). is_some c) (found_at (k id) c is) ∙ none));
    }

pub done_marked : (k : Read) (commits : List ObjectId) (id : ObjectId) (c : Option Commit) → k id ≡ Some c → has commits id ≡ true → IsDone k commits id
done_marked k commits id c is h = record { read = ap (λ (o : Option (Option Commit)). is_some o) is; marked = λ _. h }

marks : (b : Bool) (commits : List ObjectId) (id : ObjectId) → List ObjectId
marks b commits id = cond b commits (commits ++ id ∷ [])

-- what marking an id leaves
pub extends_marked : (commits more : List ObjectId) (id : ObjectId) → more ≡ cond (has commits id) commits (commits ++ id ∷ []) → Extends commits more
extends_marked commits more id is = at (has commits id) is
  where
    at : (b : Bool) → more ≡ cond b commits (commits ++ id ∷ []) → Extends commits more
    at true e = subst (λ (l : List ObjectId). Extends commits l) (sym e) (extends_none commits)
    at false e = record { more = id ∷ []; is = e }

pub has_marked : (commits more : List ObjectId) (id : ObjectId) → more ≡ cond (has commits id) commits (commits ++ id ∷ []) → has more id ≡ true
has_marked commits more id is = at (has commits id) refl is
  where
    at : (b : Bool) → has commits id ≡ b → more ≡ cond b commits (commits ++ id ∷ []) → has more id ≡ true
    at true h e = ap (λ (l : List ObjectId). has l id) e ∙ h
    at false h e = ap (λ (l : List ObjectId). has l id) e ∙ has_push commits id id ∙ or_left (eq_by_cmp id_cmp id id) (has commits id) (ties id id refl)

pub common_marked : (k : Read) (border : set.FinSet id_cmp) (acknowledged : List ObjectId) (finished : ℕ) (commits more : List ObjectId) (closed : ℕ) (id : ObjectId)
    → is_some (commit_at k id) ≡ true → IsReached k border acknowledged id → more ≡ cond (has commits id) commits (commits ++ id ∷ [])
    → IsCommon k border acknowledged finished commits closed → IsCommon k border acknowledged finished more closed
common_marked k border acknowledged finished commits more closed id stored reached is c = at (has commits id) is
  where
    at : (b : Bool) → more ≡ cond b commits (commits ++ id ∷ []) → IsCommon k border acknowledged finished more closed
    at true e = subst (λ (l : List ObjectId). IsCommon k border acknowledged finished l closed) (sym e) c
    at false e = subst (λ (l : List ObjectId). IsCommon k border acknowledged finished l closed) (sym e) (common_push k border acknowledged finished commits closed id stored reached c)

-- ---- loops
pub record IsFinishing (k l : Read) (border : set.FinSet id_cmp) (before now : Common) (g : Graph) : Type 0 where
  pub common : IsCommonIn l border now
  pub told : IsTold l g
  pub grows : Grows k l
  pub more : Covers before.commits.items now.commits.items
  pub acknowledged : now.acknowledged ≡ before.acknowledged

pub record IsMarkingAll (k l : Read) (border : set.FinSet id_cmp) (before now : Common) (g : Graph) (ids : List ObjectId) : Type 0 where
  pub common : IsCommonIn l border now
  pub told : IsTold l g
  pub grows : Grows k l
  pub done : AreDone l now.commits.items ids
  pub more : Extends before.commits.items now.commits.items
  pub acknowledged : now.acknowledged ≡ before.acknowledged
  pub finished : now.finished ≡ before.finished
  pub closed : now.closed ≡ before.closed

pub none_done : (k : Read) (commits : List ObjectId) → AreDone k commits []
none_done k commits = record { each = λ q h. absurd (true≢false (sym h)) }

pub done_further : (k l : Read) (commits more ids : List ObjectId) (i : ℕ) (d id : ObjectId) → i < length ids → id ≡ get_or ids i d → Grows k l → Extends commits more → AreDone k commits (take i ids) → IsDone l more id → AreDone l more (take (i + 1) ids)
done_further k l commits more ids i d id lt is grows extends before here =
    record {
      each = λ q h. split (λ x. IsDone l more x) id q (has (take i ids) q) here (λ e. done_more l commits more extends q (done_grown k l grows commits q (before.each q e)))
          (sym (ap (λ (xs : List ObjectId). has xs q) (grown ids i d id lt is) ∙ has_push (take i ids) id q) ∙ h);
    }

-- ---- the parts of a record that stay
pub moved : (k : Read) (border : set.FinSet id_cmp) (a a' : List ObjectId) (s s' : ℕ) (m m' : List ObjectId) (e e' : ℕ) → a' ≡ a → s' ≡ s → m' ≡ m → e' ≡ e → IsCommon k border a s m e → IsCommon k border a' s' m' e'
moved k border a a' s s' m m' e e' pa ps pm pe c =
    subst (λ (x : List ObjectId). IsCommon k border x s' m' e') (sym pa)
    (subst (λ (x : ℕ). IsCommon k border a x m' e') (sym ps) (subst (λ (x : List ObjectId). IsCommon k border a s x e') (sym pm) (subst (λ (x : ℕ). IsCommon k border a s m x) (sym pe) c)))

pub acknowledged_same : (c d : Common) → d.acknowledged ≡ c.acknowledged → d.acknowledged.items ≡ c.acknowledged.items
acknowledged_same c d e = λ i. (e i).items

pub common_in_grown : (k l : Read) (border : set.FinSet id_cmp) (c : Common) → Grows k l → IsCommonIn k border c → IsCommonIn l border c
common_in_grown k l border c grows is = (is.0, common_grown k l border c.acknowledged.items c.finished c.commits.items c.closed grows is.1)

pub common_in_kept : (k : Read) (border : set.FinSet id_cmp) (c d : Common) → IsMarked d.marked d.commits.items → d.commits.items ≡ c.commits.items → d.acknowledged ≡ c.acknowledged → d.finished ≡ c.finished → d.closed ≡ c.closed → IsCommonIn k border c → IsCommonIn k border d
common_in_kept k border c d marked pm pa ps pe is =
    (marked, moved k border c.acknowledged.items d.acknowledged.items c.finished d.finished c.commits.items d.commits.items c.closed d.closed (acknowledged_same c d pa) ps pm pe is.1)

pub common_in_marked : (k : Read) (border : set.FinSet id_cmp) (c d : Common) (id : ObjectId) → is_some (commit_at k id) ≡ true → IsReached k border c.acknowledged.items id
    → IsMarked d.marked d.commits.items → d.commits.items ≡ cond (has c.commits.items id) c.commits.items (c.commits.items ++ id ∷ []) → d.acknowledged ≡ c.acknowledged → d.finished ≡ c.finished → d.closed ≡ c.closed → IsCommonIn k border c → IsCommonIn k border d
common_in_marked k border c d id stored reached marked pm pa ps pe is = (
  marked,
  moved k border c.acknowledged.items d.acknowledged.items c.finished d.finished d.commits.items d.commits.items c.closed d.closed (acknowledged_same c d pa) ps refl pe
      (common_marked k border c.acknowledged.items c.finished c.commits.items d.commits.items c.closed id stored reached pm is.1),
)

pub has_at : (ids : List ObjectId) (i : ℕ) (d : ObjectId) → i < length ids → has ids (get_or ids i d) ≡ true
has_at ids i d lt =
    has_take (i + 1) ids (get_or ids i d)
    (ap (λ (l : List ObjectId). has l (get_or ids i d)) (grown ids i d (get_or ids i d) lt refl) ∙ has_push (take i ids) (get_or ids i d) (get_or ids i d) ∙ or_left _ _ (ties (get_or ids i d) (get_or ids i d) refl))

pub marking_none : (k : Read) (border : set.FinSet id_cmp) (c : Common) (g : Graph) → IsCommonIn k border c → IsTold k g → IsMarkingAll k k border c c g []
marking_none k border c g common told =
    record { common = common; told = told; grows = grows_none k; done = none_done k c.commits.items; more = extends_none c.commits.items; acknowledged = refl; finished = refl; closed = refl }

pub marking_further : (k l m : Read) (border : set.FinSet id_cmp) (before now after : Common) (g : Graph) (ids : List ObjectId) (i : ℕ) (d id : ObjectId) → i < length ids → id ≡ get_or ids i d
    → IsMarkingAll k l border before now g (take i ids) → IsCommonIn m border after → IsTold m g → Grows l m → Extends now.commits.items after.commits.items → IsDone m after.commits.items id
    → after.acknowledged ≡ now.acknowledged → after.finished ≡ now.finished → after.closed ≡ now.closed → IsMarkingAll k m border before after g (take (i + 1) ids)
marking_further k l m border before now after g ids i d id lt is so_far common told grows extends done pa ps pe =
    record {
      common = common;
      told = told;
      grows = grows_then k l m so_far.grows grows;
      done = done_further l m now.commits.items after.commits.items ids i d id lt is grows extends so_far.done done;
      more = extends_then before.commits.items now.commits.items after.commits.items so_far.more extends;
      acknowledged = pa ∙ so_far.acknowledged;
      finished = ps ∙ so_far.finished;
      closed = pe ∙ so_far.closed;
    }

pub within_at : (k l : Read) (border : set.FinSet id_cmp) (before now : Common) (g : Graph) (ids done : List ObjectId) (i : ℕ) (d : ObjectId) → i < length ids → IsMarkingAll k l border before now g done
    → AreWithin k border before.acknowledged.items ids → IsWithin l border now.acknowledged.items (get_or ids i d)
within_at k l border before now g ids done i d lt so_far within =
    subst (λ (a : List ObjectId). IsWithin l border a (get_or ids i d)) (sym (acknowledged_same before now so_far.acknowledged))
    (within_grown k l border before.acknowledged.items (get_or ids i d) so_far.grows (within.each (get_or ids i d) (has_at ids i d lt)))

pub finishing_none : (k : Read) (border : set.FinSet id_cmp) (c : Common) (g : Graph) → IsCommonIn k border c → IsTold k g → IsFinishing k k border c c g
finishing_none k border c g common told = record { common = common; told = told; grows = grows_none k; more = covers_none c.commits.items; acknowledged = refl }

pub finishing_further : (k l m : Read) (border : set.FinSet id_cmp) (before now after : Common) (g : Graph) → IsFinishing k l border before now g → IsCommonIn m border after → IsTold m g → Grows l m → Covers now.commits.items after.commits.items → after.acknowledged ≡ now.acknowledged → IsFinishing k m border before after g
finishing_further k l m border before now after g so_far common told grows more pa =
    record { common = common; told = told; grows = grows_then k l m so_far.grows grows; more = record { stays = λ q h. more.stays q (so_far.more.stays q h) }; acknowledged = pa ∙ so_far.acknowledged }

pub whole_in : (k : Read) (border : set.FinSet id_cmp) (c : Common) → length c.acknowledged.items ≤ c.finished → length c.commits.items ≤ c.closed → IsCommonIn k border c → IsFinished k border c.acknowledged.items c.commits.items
whole_in k border c all each is = common_whole k border c.acknowledged.items c.finished c.commits.items c.closed all each is.1

pub extended_at : (xs ys : List ObjectId) (i : ℕ) (d : ObjectId) → Extends xs ys → i < length xs → get_or ys i d ≡ get_or xs i d
extended_at xs ys i d e lt = ap (λ (l : List ObjectId). get_or l i d) e.is ∙ get_or_append_left xs e.more d i lt

extended_length : (xs ys : List ObjectId) → Extends xs ys → length xs ≤ length ys
extended_length xs ys e = omega (arith, ap (λ (l : List ObjectId). length l) e.is, length-append xs e.more)

-- the parents of the next marked commit are marked
pub close_in : (k l : Read) (border : set.FinSet id_cmp) (c d : Common) (x : ObjectId) (ids : List ObjectId) → c.closed < length c.commits.items → x ≡ get_or c.commits.items c.closed x → ids ≡ links_at k border x → Grows k l
    → Extends c.commits.items d.commits.items → AreDone l d.commits.items ids → d.closed ≡ c.closed → IsCommonIn k border c → IsCommonIn l border d
    → IsMarked d.marked d.commits.items × IsCommon l border d.acknowledged.items d.finished d.commits.items (d.closed + 1)
close_in k l border c d x ids lt at links grows extends done same was is =
    let h : has c.commits.items x ≡ true = ap (has c.commits.items) at ∙ has_at c.commits.items c.closed x lt in
    let stored = was.1.stored x h in (
      is.0,
      common_close l border d.acknowledged.items d.finished d.commits.items d.closed x x ids (omega (arith, extended_length c.commits.items d.commits.items extends))
          (at ∙ sym (extended_at c.commits.items d.commits.items c.closed x extends lt) ∙ ap (λ (i : ℕ). get_or d.commits.items i x) (sym same))
          (links ∙ sym (links_grown k l grows border x stored)) done is.1,
    )

-- the next acknowledged id is marked
pub finish_in : (l : Read) (border : set.FinSet id_cmp) (c d : Common) (x : ObjectId) → c.finished < length c.acknowledged.items → x ≡ get_or c.acknowledged.items c.finished x
    → AreDone l d.commits.items (x ∷ []) → d.finished ≡ c.finished → d.acknowledged ≡ c.acknowledged → IsCommonIn l border d
    → IsMarked d.marked d.commits.items × IsCommon l border d.acknowledged.items (d.finished + 1) d.commits.items d.closed
finish_in l border c d x lt at done ps pa is =
    let same = acknowledged_same c d pa in (
      is.0,
      common_finish l border d.acknowledged.items d.finished d.commits.items d.closed x x (omega (arith, ap (λ (l : List ObjectId). length l) same))
          (at ∙ ap (λ (l : List ObjectId). get_or l c.finished x) (sym same) ∙ ap (λ (i : ℕ). get_or d.acknowledged.items i x) (sym ps)) done is.1,
    )

pub within_next : (k : Read) (border : set.FinSet id_cmp) (c : Common) (x : ObjectId) (ids : List ObjectId) → c.closed < length c.commits.items → x ≡ get_or c.commits.items c.closed x → ids ≡ links_at k border x → IsCommonIn k border c → AreWithin k border c.acknowledged.items ids
within_next k border c x ids lt at links is =
    within_links k border c.acknowledged.items x ids (is.1.reached x (ap (has c.commits.items) at ∙ has_at c.commits.items c.closed x lt)) links

pub within_this : (k : Read) (border : set.FinSet id_cmp) (c : Common) (x : ObjectId) → c.finished < length c.acknowledged.items → x ≡ get_or c.acknowledged.items c.finished x → IsWithin k border c.acknowledged.items x
within_this k border c x lt at = within_acknowledged k border c.acknowledged.items x (ap (has c.acknowledged.items) at ∙ has_at c.acknowledged.items c.finished x lt)

-- one more id is acknowledged
pub common_acknowledged : (k : Read) (border : set.FinSet id_cmp) (acknowledged : List ObjectId) (finished : ℕ) (commits : List ObjectId) (closed : ℕ) (id : ObjectId)
    → IsCommon k border acknowledged finished commits closed → IsCommon k border (acknowledged ++ id ∷ []) finished commits closed
common_acknowledged k border acknowledged finished commits closed id c =
    record {
      finished_in = omega (arith, c.finished_in, length-append acknowledged (id ∷ []));
      closed_in = c.closed_in;
      stored = c.stored;
      reached = λ q h. record { holds = λ P start step. (c.reached q h).holds P (λ a e. start a (has_append acknowledged (id ∷ []) a e)) step };
      told = λ q h. c.told q (ap (λ (l : List ObjectId). has l q) (sym (take-append-le finished acknowledged (id ∷ []) c.finished_in)) ∙ h);
      parents = c.parents;
    }
