use Rattle.std.proofs.Common.{◌≡◌, ◌≢◌, ◌≤◌, ℕ, ◌∷◌, [], Contains, refl, sym, subst, ◌∙◌, arith}
use Rattle.fetch_base.specs.declared.id.ObjectId.{ObjectId}
use Rattle.fetch_update.specs.Dated.{parents_at, seconds_at, HasDatedPath}
use Rattle.fetch_update.specs.Walks.{State, state, Grows}
use Rattle.fetch_update.proofs.Paths.{alone, extended, last_commit, no_path, begun, next, ended, popped_room, first_room, taken, reads_end}
use Rattle.fetch_update.proofs.dated.is_dated_ancestor.Goals as goal

-- a commit is not below its own seconds
itself : (n : ℕ) → n ≤ n
itself n = omega arith

pub returns-then-same_id-clause-path : goal.returns-then-same_id-clause-path
returns-then-same_id-clause-path g c =
    let graph = g.O.Objects.graph c.args.objects.now in
    let to = c.args.to.now in
    let limit = seconds_at graph to in
    let same : c.args.from.now ≡ to = c.same_id.ensures.0 c.if-same_id.true in
    let path : HasDatedPath graph to to = alone graph limit to (c.requires.to, itself limit) in
    (λ _. subst (λ (q : ObjectId). HasDatedPath graph q to) (sym same) path, λ _. refl)

pub returns-in_err-walk-clause-cost : goal.returns-in_err-walk-clause-cost
returns-in_err-walk-clause-cost g c =
    let graph = g.O.Objects.graph c.args.objects.now in
    let to = c.args.to.now in
    let end = reads_end graph to c.read_commit.result c.args.steps.now c.read_commit.new.steps c.requires.to c.read_commit.ensures.seconds c.read_commit.ensures.step in
    let first = first_room graph to end.0 (record { seen = to ∷ []; waiting = [] }) end.1.commit refl refl in
    omega (arith, first, end.1.step)

pub returns-in_err-discover-clause-cost : goal.returns-in_err-discover-clause-cost
returns-in_err-discover-clause-cost g c =
    let graph = g.O.Objects.graph c.args.objects.now in
    let to = c.args.to.now in
    let end = reads_end graph to c.read_commit.result c.args.steps.now c.read_commit.new.steps c.requires.to c.read_commit.ensures.seconds c.read_commit.ensures.step in
    let first = first_room graph to end.0 (state c.in_ok-walk.walk) end.1.commit c.in_ok-walk.ensures.seen c.in_ok-walk.ensures.waiting in
    omega (arith, first, end.1.step, c.discover.ensures.cost)

pub commits-init : goal.commits-init
commits-init g c =
    let graph = g.O.Objects.graph c.args.objects.now in
    let to = c.args.to.now in
    let from = c.args.from.now in
    let a : State = state c.in_ok-walk.walk in
    let b : State = state c.discover.new.self in
    let end = reads_end graph to c.read_commit.result c.args.steps.now c.read_commit.new.steps c.requires.to c.read_commit.ensures.seconds c.read_commit.ensures.step in
    let first = first_room graph to end.0 a end.1.commit c.in_ok-walk.ensures.seen c.in_ok-walk.ensures.waiting in
    let limit_is : c.in_ok-walk.walk.limit ≡ seconds_at graph to = c.in_ok-walk.ensures.limit ∙ c.unwrap_or-limit.ensures ∙ end.1.seconds in
    let grown : Grows graph (seconds_at graph to) (from ∷ []) a b = subst (λ (limit : ℕ). Grows graph limit (from ∷ []) a b) limit_is c.in_ok-discover.ensures.grows in
    record {
      limit = c.discover.ensures.limit ∙ limit_is;
      walk = begun graph (seconds_at graph to) from to a b c.in_ok-walk.ensures.seen c.in_ok-walk.ensures.waiting grown c.in_ok-discover.ensures.seen;
      cost = omega (arith, first, end.1.step, c.discover.ensures.cost);
      rises = omega (arith, end.1.step, c.discover.ensures.rises);
    }

pub expand-requires : goal.expand-requires
expand-requires g c =
    let graph = g.O.Objects.graph c.args.objects.now in
    let to = c.args.to.now in
    let from = c.args.from.now in
    let limit = seconds_at graph to in
    last_commit graph limit from c.in-Some.id (taken graph limit from to c.in-Some.id (state c.commits.walk) (state c.pop.new.self) c.commits.invariant.walk c.in-Some.ensures.popped)

pub returns-in_err-expand-clause-cost : goal.returns-in_err-expand-clause-cost
returns-in_err-expand-clause-cost g c =
    let graph = g.O.Objects.graph c.args.objects.now in
    let less = popped_room graph c.in-Some.id (state c.commits.walk) (state c.pop.new.self) c.pop.ensures.seen c.in-Some.ensures.popped in
    omega (arith, less.0, c.expand.ensures.cost, c.commits.invariant.cost)

pub returns-then-branch-clause-path : goal.returns-then-branch-clause-path
returns-then-branch-clause-path g c =
    let graph = g.O.Objects.graph c.args.objects.now in
    let to = c.args.to.now in
    let from = c.args.from.now in
    let limit = seconds_at graph to in
    let before = taken graph limit from to c.in-Some.id (state c.commits.walk) (state c.pop.new.self) c.commits.invariant.walk c.in-Some.ensures.popped in
    let one : Contains (parents_at graph c.in-Some.id) to = c.in_ok-expand.ensures.found c.if-branch.true in
    let path : HasDatedPath graph from to = extended graph limit from c.in-Some.id to before one (c.requires.to, itself limit) in
    (λ _. path, λ _. refl)

pub returns-then-branch-clause-cost : goal.returns-then-branch-clause-cost
returns-then-branch-clause-cost g c =
    let graph = g.O.Objects.graph c.args.objects.now in
    let less = popped_room graph c.in-Some.id (state c.commits.walk) (state c.pop.new.self) c.pop.ensures.seen c.in-Some.ensures.popped in
    omega (arith, less.0, c.expand.ensures.cost, c.commits.invariant.cost)

pub commits-smaller : goal.commits-smaller
commits-smaller g c =
    let graph = g.O.Objects.graph c.args.objects.now in
    let less = popped_room graph c.in-Some.id (state c.commits.walk) (state c.pop.new.self) c.pop.ensures.seen c.in-Some.ensures.popped in
    omega (arith, less.1, c.in_ok-expand.ensures.work)

pub commits-preserved : goal.commits-preserved
commits-preserved g c =
    let graph = g.O.Objects.graph c.args.objects.now in
    let to = c.args.to.now in
    let from = c.args.from.now in
    let limit = seconds_at graph to in
    let id = c.in-Some.id in
    let a : State = state c.commits.walk in
    let p : State = state c.pop.new.self in
    let e : State = state c.expand.new.self in
    let less = popped_room graph id a p c.pop.ensures.seen c.in-Some.ensures.popped in
    let limit_is : c.pop.new.self.limit ≡ limit = c.pop.ensures.limit ∙ c.commits.invariant.limit in
    let grown : Grows graph limit (parents_at graph id) p e = subst (λ (l : ℕ). Grows graph l (parents_at graph id) p e) limit_is c.in_ok-expand.ensures.grows in
    record {
      limit = c.expand.ensures.limit ∙ limit_is;
      walk = next graph limit from to id a p e c.commits.invariant.walk c.pop.ensures.seen c.in-Some.ensures.popped grown (c.in_ok-expand.ensures.done c.if-branch.false);
      cost = omega (arith, less.0, c.expand.ensures.cost, c.commits.invariant.cost);
      rises = omega (arith, c.expand.ensures.rises, c.commits.invariant.rises);
    }

pub returns-clause-path : goal.returns-clause-path
returns-clause-path g c =
    let graph = g.O.Objects.graph c.args.objects.now in
    let to = c.args.to.now in
    let from = c.args.from.now in
    let limit = seconds_at graph to in
    let a : State = state c.commits.walk in
    let none : a.waiting ≡ [] = c.in_default.ensures.popped in
    let other : from ≢ to = λ same. absurd (let found = c.same_id.ensures.1 same in let no = c.if-same_id.false in cc) in
    (λ found. absurd cc, λ path. absurd (no_path graph limit from to a (ended graph limit from to a c.commits.invariant.walk none) c.commits.invariant.walk.start other path))

pub returns-in_err-walk-clause-equal : goal.returns-in_err-walk-clause-equal
returns-in_err-walk-clause-equal g c = λ same. absurd (let found = c.same_id.ensures.1 same in let no = c.if-same_id.false in cc)

pub returns-in_err-discover-clause-equal : goal.returns-in_err-discover-clause-equal
returns-in_err-discover-clause-equal g c = λ same. absurd (let found = c.same_id.ensures.1 same in let no = c.if-same_id.false in cc)

pub returns-in_err-expand-clause-equal : goal.returns-in_err-expand-clause-equal
returns-in_err-expand-clause-equal g c = λ same. absurd (let found = c.same_id.ensures.1 same in let no = c.if-same_id.false in cc)

pub returns-then-branch-clause-equal : goal.returns-then-branch-clause-equal
returns-then-branch-clause-equal g c = λ same. absurd (let found = c.same_id.ensures.1 same in let no = c.if-same_id.false in cc)

pub returns-clause-equal : goal.returns-clause-equal
returns-clause-equal g c = λ same. absurd (let found = c.same_id.ensures.1 same in let no = c.if-same_id.false in cc)

pub returns-then-same_id-clause-equal : goal.returns-then-same_id-clause-equal
returns-then-same_id-clause-equal g c = λ _. omega arith
