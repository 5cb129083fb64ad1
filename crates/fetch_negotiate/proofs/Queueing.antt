-- The frontier of candidates, step by step.
use Rattle.std.proofs.Common.{◌≡◌, ℕ, ◌+◌, ◌<◌, Bool, true, false, List, [], ◌∷◌, ◌++◌, take, get_or, length, Option, Some, true≢false, ⊎_elim, refl, sym, ap, subst, ◌∙◌, append_assoc, length-append, arith}
use Rattle.std.specs.Prelude.{is_some, ◌||◌}
use Rattle.std.specs.BTreeSet.{BTreeSet}
use Rattle.std.specs.FinSet as set
use Rattle.std.specs.List.{flat_map, list_any}
use Rattle.std.specs.BTreeMap.{is_at}
use Rattle.std.specs.Option.{option_and_then, option_map_or}
use Rattle.std.specs.Ordering.{eq_by_cmp}
use Rattle.std.specs.declared.cmp.Reverse.{Reverse}
use Rattle.std.proofs.lemmas.List.{take-append-le}
use Rattle.std.proofs.lemmas.Grind.{flat_map-append}
use Rattle.fetch_base.specs.declared.id.ObjectId.{ObjectId}
use Rattle.fetch_store.specs.Graph.{Graph}
use Rattle.fetch_base.specs.Id.{id_cmp}
use Rattle.fetch_store.proofs.Finds.{ties}
use Rattle.fetch_negotiate.specs.declared.commits.Commit.{Commit}
use Rattle.fetch_negotiate.specs.declared.frontier.Frontier.{Frontier}
use Rattle.fetch_negotiate.specs.Commits.{has}
use Rattle.fetch_negotiate.specs.Reading.{Read, Grows, IsTold, commit_at, links_at}
use Rattle.fetch_negotiate.specs.Sharing.{IsMarked, Covers}
use Rattle.fetch_negotiate.specs.Queues.{Rank, IsEntered, IsQueued, IsFrontier, IsFrontierIn, in_queue, rank_at, rank_cmp}
use Rattle.fetch_negotiate.proofs.Growing.{grown_at, commit_grown, commit_stays, links_grown, read_of, grows_then, grows_none}
use Rattle.fetch_negotiate.proofs.Onces.{has_push, grown}
use Rattle.fetch_negotiate.proofs.Commons.{split, has_append, has_at, found_at}
use Rattle.fetch_negotiate.proofs.Ranking.{Puts, Drops}

abbrev pub rank_of : ℕ → ObjectId → Rank
rank_of s q = (let r : Reverse ℕ = record { 0 = s } in r, q)

rank_grown : (k l : Read) → Grows k l → (q : ObjectId) → is_some (k q) ≡ true → rank_at l q ≡ rank_at k q
rank_grown k l grows q h = ap (λ (c : Option Commit). rank_of (option_map_or (λ (c : Commit). c.seconds) c 0) q) (commit_grown k l grows q h)

pub flat_map_same : (f g : ObjectId → List ObjectId) (xs : List ObjectId) → ((q : ObjectId) → has xs q ≡ true → f q ≡ g q) → flat_map f xs ≡ flat_map g xs
flat_map_same f g [] same = refl
flat_map_same f g (x ∷ xs) same =
    ap (λ (l : List ObjectId). l ++ flat_map f xs) (same x (ap (λ b. b || has xs x) (ties x x refl)))
    ∙ ap (λ (l : List ObjectId). g x ++ l) (flat_map_same f g xs (λ q h. same q (behind (eq_by_cmp id_cmp q x) (has xs q) h)))
  where
    behind : (a b : Bool) → b ≡ true → (a || b) ≡ true
    behind true b h = refl
    behind false b h = h

-- more is read
pub line_grown : (k l : Read) (border : set.FinSet id_cmp) (commits : List ObjectId) (tips : ℕ) (candidates : List ObjectId) (entered : ℕ) (queue : BTreeSet Rank) (taken : List ObjectId) → Grows k l
    → IsFrontier k border commits tips candidates entered queue taken → IsFrontier l border commits tips candidates entered queue taken
line_grown k l border commits tips candidates entered queue taken grows c =
    record {
      tips_in = c.tips_in;
      entered_in = c.entered_in;
      all = c.all ∙ ap (λ (m : List ObjectId). take tips candidates ++ m) (flat_map_same (links_at k border) (links_at l border) taken (λ q h. sym (links_grown k l grows border q (c.known q h))));
      known = λ q h. commit_stays k l grows q (c.known q h);
      each = λ q h. let e = c.each q h in record {
        read = ap (λ (o : Option (Option Commit)). is_some o) (grown_at k l grows q e.read) ∙ e.read;
        waits = λ stored fresh other. ap (λ (r : Rank). in_queue queue r) (rank_grown k l grows q e.read) ∙ e.waits (sym (ap (λ (c : Option Commit). is_some c) (commit_grown k l grows q e.read)) ∙ stored) fresh other;
      };
      queued = λ r h. let e = c.queued r h in record {
        stored = commit_stays k l grows r.1 e.stored;
        candidate = e.candidate;
        seconds = e.seconds ∙ sym (rank_grown k l grows r.1 (read_of k r.1 e.stored));
      };
    }

-- more commits are common
pub line_covered : (k : Read) (border : set.FinSet id_cmp) (commits more : List ObjectId) (tips : ℕ) (candidates : List ObjectId) (entered : ℕ) (queue : BTreeSet Rank) (taken : List ObjectId) → Covers commits more
    → IsFrontier k border commits tips candidates entered queue taken → IsFrontier k border more tips candidates entered queue taken
line_covered k border commits more tips candidates entered queue taken covers c =
    record {
      tips_in = c.tips_in;
      entered_in = c.entered_in;
      all = c.all;
      known = c.known;
      each = λ q h. record { read = (c.each q h).read; waits = λ stored fresh other. (c.each q h).waits stored fresh (before q (has commits q) refl other) };
      queued = c.queued;
    }
  where
    before : (q : ObjectId) (b : Bool) → has commits q ≡ b → has more q ≡ false → b ≡ false
    before q true h other = absurd (true≢false (sym (covers.stays q h) ∙ other))
    before q false h other = refl

-- one more candidate was entered
pub line_entered : (k : Read) (border : set.FinSet id_cmp) (commits : List ObjectId) (tips : ℕ) (candidates : List ObjectId) (entered : ℕ) (queue more : BTreeSet Rank) (taken : List ObjectId) (d id : ObjectId)
    → entered < length candidates → id ≡ get_or candidates entered d → is_some (k id) ≡ true → is_some (commit_at k id) ≡ true → Puts queue more (rank_at k id)
    → IsFrontier k border commits tips candidates entered queue taken → IsFrontier k border commits tips candidates (entered + 1) more taken
line_entered k border commits tips candidates entered queue more taken d id lt is read stored puts c =
    record {
      tips_in = c.tips_in;
      entered_in = omega arith;
      all = c.all;
      known = c.known;
      each = λ q h. split (λ x. IsEntered k commits taken more x) id q (has (take entered candidates) q)
          (record { read = read; waits = λ _ _ _. puts.here })
          (λ e. record { read = (c.each q e).read; waits = λ s f o. puts.stays (rank_at k q) ((c.each q e).waits s f o) })
          (sym (ap (λ (l : List ObjectId). has l q) (grown candidates entered d id lt is) ∙ has_push (take entered candidates) id q) ∙ h);
      queued = λ r h. ⊎_elim (λ e. subst (IsQueued k candidates) e (record { stored = stored; candidate = ap (has candidates) is ∙ has_at candidates entered d lt; seconds = refl })) (c.queued r) (puts.only r h);
    }

-- one that is no stored commit
pub line_passed : (k : Read) (border : set.FinSet id_cmp) (commits : List ObjectId) (tips : ℕ) (candidates : List ObjectId) (entered : ℕ) (queue : BTreeSet Rank) (taken : List ObjectId) (d id : ObjectId)
    → entered < length candidates → id ≡ get_or candidates entered d → is_some (k id) ≡ true → is_some (commit_at k id) ≡ false
    → IsFrontier k border commits tips candidates entered queue taken → IsFrontier k border commits tips candidates (entered + 1) queue taken
line_passed k border commits tips candidates entered queue taken d id lt is read absent c =
    record {
      tips_in = c.tips_in;
      entered_in = omega arith;
      all = c.all;
      known = c.known;
      each = λ q h. split (λ x. IsEntered k commits taken queue x) id q (has (take entered candidates) q)
          (record { read = read; waits = λ s _ _. absurd (true≢false (sym s ∙ absent)) })
          (c.each q)
          (sym (ap (λ (l : List ObjectId). has l q) (grown candidates entered d id lt is) ∙ has_push (take entered candidates) id q) ∙ h);
      queued = c.queued;
    }

-- one that is taken or common leaves the queue
pub line_dropped : (k : Read) (border : set.FinSet id_cmp) (commits : List ObjectId) (tips : ℕ) (candidates : List ObjectId) (entered : ℕ) (queue less : BTreeSet Rank) (taken : List ObjectId) (r : Rank)
    → Drops queue less r → (has taken r.1 ≡ false → has commits r.1 ≡ false → ⊥)
    → IsFrontier k border commits tips candidates entered queue taken → IsFrontier k border commits tips candidates entered less taken
line_dropped k border commits tips candidates entered queue less taken r drops closed c =
    record {
      tips_in = c.tips_in;
      entered_in = c.entered_in;
      all = c.all;
      known = c.known;
      each = λ q h. record {
        read = (c.each q h).read;
        waits = λ s f o. drops.stays (rank_at k q) (λ same. closed (ap (has taken) same ∙ f) (ap (has commits) same ∙ o)) ((c.each q h).waits s f o);
      };
      queued = λ q h. c.queued q (drops.before q h);
    }

pub no_more : (l : List ObjectId) → l ++ [] ≡ l
no_more [] = refl
no_more (x ∷ l) = ap (λ (m : List ObjectId). x ∷ m) (no_more l)

-- one commit is taken: its parents are candidates
pub line_taken : (k : Read) (border : set.FinSet id_cmp) (commits : List ObjectId) (tips : ℕ) (candidates : List ObjectId) (entered : ℕ) (queue : BTreeSet Rank) (taken links : List ObjectId) (id : ObjectId)
    → links ≡ links_at k border id → is_some (commit_at k id) ≡ true
    → IsFrontier k border commits tips candidates entered queue taken → IsFrontier k border commits tips (candidates ++ links) entered queue (taken ++ id ∷ [])
line_taken k border commits tips candidates entered queue taken links id is stored c =
    record {
      tips_in = omega (arith, c.tips_in, length-append candidates links);
      entered_in = omega (arith, c.entered_in, length-append candidates links);
      all = all;
      known = λ q h. split (λ x. is_some (commit_at k x) ≡ true) id q (has taken q) stored (c.known q) (sym (has_push taken id q) ∙ h);
      each = λ q h. let e = c.each q (sym (ap (λ (l : List ObjectId). has l q) (take-append-le entered candidates links c.entered_in)) ∙ h) in record {
        read = e.read;
        waits = λ s f o. e.waits s (before q (has taken q) refl f) o;
      };
      queued = λ r h. let e = c.queued r h in record { stored = e.stored; candidate = has_append candidates links r.1 e.candidate; seconds = e.seconds };
    }
  where
    all : candidates ++ links ≡ take tips (candidates ++ links) ++ flat_map (links_at k border) (taken ++ id ∷ [])
    all =
        ap (λ (m : List ObjectId). m ++ links) c.all
        ∙ append_assoc (take tips candidates) (flat_map (links_at k border) taken) links
        ∙ ap (λ (m : List ObjectId). take tips candidates ++ m) (ap (λ (m : List ObjectId). flat_map (links_at k border) taken ++ m) (is ∙ sym (no_more (links_at k border id))) ∙ sym (flat_map-append (links_at k border) taken (id ∷ [])))
        ∙ ap (λ (m : List ObjectId). m ++ flat_map (links_at k border) (taken ++ id ∷ [])) (sym (take-append-le tips candidates links c.tips_in))

    before : (q : ObjectId) (b : Bool) → has taken q ≡ b → has (taken ++ id ∷ []) q ≡ false → b ≡ false
    before q true h f = absurd (true≢false (sym (has_append taken (id ∷ []) q h) ∙ f))
    before q false h f = refl

-- ---- the same, of the record
pub line_in_grown : (k l : Read) (border : set.FinSet id_cmp) (commits : List ObjectId) (x : Frontier) → Grows k l → IsFrontierIn k border commits x → IsFrontierIn l border commits x
line_in_grown k l border commits x grows is = (is.0, line_grown k l border commits x.tips x.candidates.items x.entered x.queue x.taken.items grows is.1)

-- a queue with the same entries
pub line_in_requeued : (k : Read) (border : set.FinSet id_cmp) (commits : List ObjectId) (x : Frontier) (queue : BTreeSet Rank) → queue.keys ≡ x.queue.keys → IsFrontierIn k border commits x
    → IsMarked x.told x.taken.items × IsFrontier k border commits x.tips x.candidates.items x.entered queue x.taken.items
line_in_requeued k border commits x queue same is =
    let at : (r : Rank) → in_queue queue r ≡ in_queue x.queue r = λ r. ap (λ (ks : List Rank). list_any (is_at (rank_cmp r)) ks) same in (
      is.0,
      record {
        tips_in = is.1.tips_in;
        entered_in = is.1.entered_in;
        all = is.1.all;
        known = is.1.known;
        each = λ q h. let e = is.1.each q h in record { read = e.read; waits = λ s f o. at (rank_at k q) ∙ e.waits s f o };
        queued = λ r h. is.1.queued r (sym (at r) ∙ h);
      },
    )

abbrev pub IsFrontierNext : Read → set.FinSet id_cmp → List ObjectId → Frontier → Type 0
IsFrontierNext k border commits x = IsMarked x.told x.taken.items × IsFrontier k border commits x.tips x.candidates.items (x.entered + 1) x.queue x.taken.items

read_at : (o : Option (Option Commit)) (c : Option Commit) → o ≡ Some c → is_some o ≡ true
read_at o c is = ap (λ (o : Option (Option Commit)). is_some o) is

commit_is : (o : Option (Option Commit)) (c : Option Commit) (b : Bool) → o ≡ Some c → is_some c ≡ b → is_some (option_and_then (λ (c : Option Commit). c) o) ≡ b
commit_is o c b is stored = ap (λ (c : Option Commit). is_some c) (found_at o c is) ∙ stored

pub line_in_entered : (k : Read) (border : set.FinSet id_cmp) (commits : List ObjectId) (x : Frontier) (queue : BTreeSet Rank) (id : ObjectId) (c : Option Commit) → x.entered < length x.candidates.items → id ≡ get_or x.candidates.items x.entered id
    → k id ≡ Some c → is_some c ≡ true → Puts x.queue queue (rank_at k id) → IsFrontierIn k border commits x → IsMarked x.told x.taken.items × IsFrontier k border commits x.tips x.candidates.items (x.entered + 1) queue x.taken.items
line_in_entered k border commits x queue id c lt at found stored puts is =
    (is.0, line_entered k border commits x.tips x.candidates.items x.entered x.queue queue x.taken.items id id lt at (read_at (k id) c found) (commit_is (k id) c true found stored) puts is.1)

pub line_in_passed : (k : Read) (border : set.FinSet id_cmp) (commits : List ObjectId) (x : Frontier) (id : ObjectId) (c : Option Commit) → x.entered < length x.candidates.items → id ≡ get_or x.candidates.items x.entered id
    → k id ≡ Some c → is_some c ≡ false → IsFrontierIn k border commits x → IsFrontierNext k border commits x
line_in_passed k border commits x id c lt at found absent is =
    (is.0, line_passed k border commits x.tips x.candidates.items x.entered x.queue x.taken.items id id lt at (read_at (k id) c found) (commit_is (k id) c false found absent) is.1)

-- ---- the loop that enters candidates
pub record IsEntering (k l : Read) (border : set.FinSet id_cmp) (commits : List ObjectId) (before now : Frontier) (g : Graph) : Type 0 where
  pub frontier : IsFrontierIn l border commits now
  pub told : IsTold l g
  pub grows : Grows k l
  pub tips : now.tips ≡ before.tips
  pub candidates : now.candidates ≡ before.candidates
  pub taken : now.taken ≡ before.taken

pub entering_further : (k l m : Read) (border : set.FinSet id_cmp) (commits : List ObjectId) (before now after : Frontier) (g : Graph) → IsEntering k l border commits before now g → IsFrontierIn m border commits after → IsTold m g → Grows l m
    → after.tips ≡ now.tips → after.candidates ≡ now.candidates → after.taken ≡ now.taken → IsEntering k m border commits before after g
entering_further k l m border commits before now after g so_far frontier told grows tips candidates taken =
    record { frontier = frontier; told = told; grows = grows_then k l m so_far.grows grows; tips = tips ∙ so_far.tips; candidates = candidates ∙ so_far.candidates; taken = taken ∙ so_far.taken }

pub entering_none : (k : Read) (border : set.FinSet id_cmp) (commits : List ObjectId) (x : Frontier) (g : Graph) → IsFrontierIn k border commits x → IsTold k g → IsEntering k k border commits x x g
entering_none k border commits x g frontier told = record { frontier = frontier; told = told; grows = grows_none k; tips = refl; candidates = refl; taken = refl }
