-- A commit is taken.
use Rattle.std.proofs.Common.{◌≡◌, true, List, [], ◌∷◌, ◌++◌, take, length, Option, Some, None, sym, subst, arith}
use Rattle.std.specs.Prelude.{is_some, IfSome, IfNone}
use Rattle.std.specs.BTreeSet.{BTreeSet}
use Rattle.std.specs.FinSet as set
use Rattle.fetch_base.specs.declared.id.ObjectId.{ObjectId}
use Rattle.fetch_store.specs.Graph.{Graph}
use Rattle.fetch_base.specs.Id.{id_cmp}
use Rattle.fetch_negotiate.specs.declared.common.Common.{Common}
use Rattle.fetch_negotiate.specs.declared.frontier.Frontier.{Frontier}
use Rattle.fetch_negotiate.specs.declared.walk.HaveWalk.{HaveWalk}
use Rattle.fetch_negotiate.specs.Exact.{IsExact}
use Rattle.fetch_negotiate.specs.Haves.{Negotiation, next_taken}
use Rattle.fetch_negotiate.specs.Queues.{IsFrontier, IsFrontierIn, IsChosen, IsNone, rank_at}
use Rattle.fetch_negotiate.specs.Reading.{Read, Grows, IsTold, commit_at, links_at, read_in}
use Rattle.fetch_negotiate.specs.Sharing.{IsMarked, Covers}
use Rattle.fetch_negotiate.specs.Walking.{IsWalk, IsReady, IsRead, so_far_in}
use Rattle.fetch_negotiate.proofs.Commons.{marked_push}
use Rattle.fetch_negotiate.proofs.Nexts.{next_is, next_none}
use Rattle.fetch_negotiate.proofs.Onces.{Adds}
use Rattle.fetch_negotiate.proofs.Queueing.{line_in_grown, line_covered, line_taken}

-- a commit is taken, and its parents are candidates
pub line_in_taken : (k : Read) (border : set.FinSet id_cmp) (commits : List ObjectId) (x : Frontier) (told : BTreeSet ObjectId) (links cands taken : List ObjectId) (id : ObjectId) → Adds x.told told id → links ≡ links_at k border id
    → is_some (commit_at k id) ≡ true → cands ≡ x.candidates.items ++ links → taken ≡ x.taken.items ++ id ∷ [] → IsFrontierIn k border commits x
    → IsMarked told taken × IsFrontier k border commits x.tips cands x.entered x.queue taken
line_in_taken k border commits x told links cands taken id adds is stored more also frontier =
    subst (λ (l : List ObjectId). IsMarked told l × IsFrontier k border commits x.tips cands x.entered x.queue l) (sym also) (
      marked_push x.told told x.taken.items id frontier.0 adds,
      subst (λ (l : List ObjectId). IsFrontier k border commits x.tips l x.entered x.queue (x.taken.items ++ id ∷ [])) (sym more)
          (line_taken k border commits x.tips x.candidates.items x.entered x.queue x.taken.items links id is stored frontier.1),
    )

-- more was read, and more is common
pub line_after : (k l : Read) (border : set.FinSet id_cmp) (commits more : List ObjectId) (x : Frontier) → Grows k l → Covers commits more → IsFrontierIn k border commits x → IsFrontierIn l border more x
line_after k l border commits more x grows covers frontier =
    let grown = line_in_grown k l border commits x grows frontier in
    (grown.0, line_covered l border commits more x.tips x.candidates.items x.entered x.queue x.taken.items covers grown.1)

pub so_far_same : (a b : HaveWalk) → b.border ≡ a.border → b.frontier.tips ≡ a.frontier.tips → b.frontier.candidates ≡ a.frontier.candidates → b.frontier.taken ≡ a.frontier.taken → b.common.acknowledged ≡ a.common.acknowledged → so_far_in b ≡ so_far_in a
so_far_same a b border tips candidates taken acknowledged =
    λ i. (let n : Negotiation = record { tips = take (tips i) (candidates i).items; border = border i; taken = (taken i).items; acknowledged = (acknowledged i).items } in n)

pub ready_same : (g : Graph) (a b : HaveWalk) → b.border ≡ a.border → b.common ≡ a.common → b.frontier.candidates ≡ a.frontier.candidates → b.frontier.entered ≡ a.frontier.entered → IsReady g a → IsReady g b
ready_same g a b border common candidates entered ready =
    record {
      exact = subst (λ (d : set.FinSet id_cmp). IsExact g d b.common.acknowledged.items b.common.commits.items) (sym border)
          (subst (λ (c : Common). IsExact g a.border c.acknowledged.items c.commits.items) (sym common) ready.exact);
      entered = let same : length b.frontier.candidates.items ≡ length a.frontier.candidates.items = λ i. length (candidates i).items in omega (arith, ready.entered, entered, same);
    }

-- a commit of the queue was read
pub chosen_read : (w : HaveWalk) (id : ObjectId) → IsWalk w → IsChosen (read_in w.table) w.common.commits.items w.frontier.taken.items w.frontier.queue id → IsRead w id
chosen_read w id walk chosen = (walk.frontier.1.queued (rank_at (read_in w.table) id) chosen.waits).stored

-- what was chosen comes next
pub chosen_next : (g : Graph) (w : HaveWalk) (next : Option ObjectId) → IsTold (read_in w.table) g → IsReady g w → IsWalk w
    → IfSome next (IsChosen (read_in w.table) w.common.commits.items w.frontier.taken.items w.frontier.queue) → IfNone next (IsNone w.frontier.queue) → next ≡ next_taken g (so_far_in w)
chosen_next g w (Some id) told ready walk chosen none =
    sym (next_is (read_in w.table) g w.border w.common.acknowledged.items w.common.commits.items w.frontier.tips w.frontier.candidates.items w.frontier.entered w.frontier.queue w.frontier.taken.items told ready.exact ready.entered walk.frontier.1 id chosen)
chosen_next g w None told ready walk chosen none =
    sym (next_none (read_in w.table) g w.border w.common.acknowledged.items w.common.commits.items w.frontier.tips w.frontier.candidates.items w.frontier.entered w.frontier.queue w.frontier.taken.items told ready.exact ready.entered walk.frontier.1 none)
