use Rattle.std.proofs.Common.{◌≡◌, false, List, [], ◌∷◌, ◌++◌, Some, take, sym, ap, subst, ◌∙◌}
use Rattle.fetch_base.specs.declared.id.ObjectId.{ObjectId}
use Rattle.fetch_negotiate.specs.Commits.{has}
use Rattle.fetch_negotiate.specs.Haves.{Negotiation}
use Rattle.fetch_negotiate.specs.Kept.{KeptOffers, read_by}
use Rattle.fetch_negotiate.specs.Reading.{Table, IsTold, read_in}
use Rattle.fetch_negotiate.specs.Sharing.{Covers}
use Rattle.fetch_negotiate.specs.Skips.{next_offered}
use Rattle.fetch_negotiate.specs.Walking.{so_far_in}
use Rattle.fetch_negotiate.proofs.Counting.{covers_push, new_fresh, new_stored, new_taken, not_covered}
use Rattle.fetch_negotiate.proofs.GivingBack.{IsBack, so_far_back, skipping_back}
use Rattle.fetch_negotiate.proofs.Growing.{told_by, told_in}
use Rattle.fetch_negotiate.proofs.skipping.SkippingNegotiator.next.Goals as goal

pub skip_on-requires-clause-told : goal.skip_on-requires-clause-told
skip_on-requires-clause-told g c =
    let graph = g.O.Objects.graph c.args.objects.now in
    told_in c.self.inside.walk.table graph (subst (λ (v : KeptOffers). IsTold (read_by v.known) graph) (sym c.self.view_is) c.requires)

-- ---- memory ran out on the way: what was taken is given back

pub give_back-requires : goal.give_back-requires
give_back-requires g c = c.skip_on.ensures.skipping.walk.frontier.0

pub invariant_of-self-in-Err : goal.invariant_of-self-in-Err
invariant_of-self-in-Err g c =
    let w = c.self.inside.walk in
    let v = c.skip_on.new.walk in
    let x = c.give_back.new.walk in
    let s = c.self.inside.skips in
    let t = c.skip_on.new.skips in
    let u = c.give_back.new.skips in
    let h = g.O.Objects.graph c.args.objects.now in
    let e = c.skip_on.ensures in
    let b = c.give_back.ensures in
    let m = c.of-mark.ensures in
    let back : IsBack w v x s t u =
    record {
      border = b.border;
      table = b.table;
      common = b.common;
      tips = b.tips;
      candidates = b.candidates ∙ ap (λ n. take n v.frontier.candidates.items) m.candidates;
      entered = b.entered;
      queue = b.queue;
      taken = b.taken ∙ ap (λ n. take n v.frontier.taken.items) m.taken;
      told = b.told;
      handed = b.handed ∙ ap (λ n. take n t.handed.items) m.handed;
      paired = b.paired;
    } in
    let same = ap (λ (n : Negotiation). n.taken) (so_far_back w v x s t u h e.told c.self.invariant.skipping e.skipping e.goes back) in
    record {
      skipping = skipping_back w v x s t u h e.told c.self.invariant.skipping e.skipping e.goes back;
      taken = subst (λ (l : List ObjectId). Covers l x.frontier.taken.items) (sym c.in_ok-reserve.ensures.items) (subst (λ (l : List ObjectId). Covers c.self.inside.offered.items l) (sym same) c.self.invariant.taken);
    }

pub returns-in-Err-clause-unchanged : goal.returns-in-Err-clause-unchanged
returns-in-Err-clause-unchanged g c =
    let w = c.self.inside.walk in
    let v = c.skip_on.new.walk in
    let x = c.give_back.new.walk in
    let s = c.self.inside.skips in
    let t = c.skip_on.new.skips in
    let u = c.give_back.new.skips in
    let h = g.O.Objects.graph c.args.objects.now in
    let e = c.skip_on.ensures in
    let b = c.give_back.ensures in
    let m = c.of-mark.ensures in
    let back : IsBack w v x s t u =
    record {
      border = b.border;
      table = b.table;
      common = b.common;
      tips = b.tips;
      candidates = b.candidates ∙ ap (λ n. take n v.frontier.candidates.items) m.candidates;
      entered = b.entered;
      queue = b.queue;
      taken = b.taken ∙ ap (λ n. take n v.frontier.taken.items) m.taken;
      told = b.told;
      handed = b.handed ∙ ap (λ n. take n t.handed.items) m.handed;
      paired = b.paired;
    } in
    so_far_back w v x s t u h e.told c.self.invariant.skipping e.skipping e.goes back ∙ ap (λ (k : KeptOffers). k.so_far) c.self.view_is

pub returns-in-Err-clause-later : goal.returns-in-Err-clause-later
returns-in-Err-clause-later g c = ap (λ (n : Negotiation). next_offered (g.O.Objects.graph c.args.objects.now) n) (returns-in-Err-clause-unchanged g c)

pub returns-in-Err-clause-told : goal.returns-in-Err-clause-told
returns-in-Err-clause-told g c =
    let h = g.O.Objects.graph c.args.objects.now in
    told_by c.give_back.new.walk.table h (subst (λ (t : Table). IsTold (read_in t) h) (sym c.give_back.ensures.table) c.skip_on.ensures.told)

-- ---- a commit is offered, or none is left

pub invariant_of-self-in-Some : goal.invariant_of-self-in-Some
invariant_of-self-in-Some g c =
    let h = g.O.Objects.graph c.args.objects.now in
    let n = so_far_in c.self.inside.walk in
    let m = so_far_in c.skip_on.new.walk in
    let e = c.in-Ok.ensures in
    let id = c.in-Some.id in
    let have : (next_offered h n).have ≡ Some id = sym e.next ∙ c.in-Some.is in
    let items : c.push_reserved.new.self.items ≡ c.self.inside.offered.items ++ id ∷ [] = c.push_reserved.ensures.items ∙ ap (λ (l : List ObjectId). l ++ id ∷ []) c.in_ok-reserve.ensures.items in
    record {
      skipping = e.skipping;
      taken = subst (λ (l : List ObjectId). Covers l m.taken) (sym items) (covers_push c.self.inside.offered.items n.taken m.taken id c.self.invariant.taken e.more (new_taken h n m id have e.ok));
    }

pub returns-in-Some-clause-stored : goal.returns-in-Some-clause-stored
returns-in-Some-clause-stored g c = new_stored (g.O.Objects.graph c.args.objects.now) (so_far_in c.self.inside.walk) c.in-Some.id (sym c.in-Ok.ensures.next ∙ c.in-Some.is)

pub returns-in-Some-clause-fresh : goal.returns-in-Some-clause-fresh
returns-in-Some-clause-fresh g c =
    let n = so_far_in c.self.inside.walk in
    let id = c.in-Some.id in
    subst (λ (v : KeptOffers). has v.offered id ≡ false) c.self.view_is
    (not_covered c.self.inside.offered.items n.taken id c.self.invariant.taken (new_fresh (g.O.Objects.graph c.args.objects.now) n id (sym c.in-Ok.ensures.next ∙ c.in-Some.is)))

pub returns-in-Some-clause-told : goal.returns-in-Some-clause-told
returns-in-Some-clause-told g c = told_by c.skip_on.new.walk.table (g.O.Objects.graph c.args.objects.now) c.in-Ok.ensures.told

pub returns-in-None-clause-told : goal.returns-in-None-clause-told
returns-in-None-clause-told g c = told_by c.skip_on.new.walk.table (g.O.Objects.graph c.args.objects.now) c.in-Ok.ensures.told
