use Rattle.std.proofs.Common.{◌≡◌, ◌+◌, ◌≤◌, ℕ, List, [], ◌∷◌, refl, sym, subst, arith}
use Rattle.fetch_base.specs.declared.id.ObjectId.{ObjectId}
use Rattle.fetch_store.specs.Graph.{Node}
use Rattle.fetch_update.specs.Dated.{commit_at, seconds_in}
use Rattle.fetch_update.specs.Walks.{State, state, Grows, Keeps, room, work}
use Rattle.fetch_update.proofs.Seen.{Added, added_new}
use Rattle.fetch_update.proofs.Visits.{grows_none, grows_kept, room_none, room_read, room_kept, either_way, when_fine, some_of, none_of}
use Rattle.fetch_update.proofs.walk.Walk.discover.Goals as goal

at_one_more : (before now a b : ℕ) → now ≡ before + 1 → 1 + b ≤ a → now + b ≤ before + a
at_one_more before now a b is less = omega arith

at_same : (before now a b : ℕ) → now ≡ before → b ≤ a → now + b ≤ before + a
at_same before now a b is less = omega arith

-- a commit was read
keeps_at : (limit seconds : ℕ) (n : Node) (id : ObjectId) (a b : List (ℕ × ObjectId)) → seconds_in n ≡ seconds → Keeps limit seconds id a b → Keeps limit (seconds_in n) id a b
keeps_at limit seconds n id a b is keeps = subst (λ (s : ℕ). Keeps limit s id a b) (sym is) keeps

pub returns-in-Some-clause-grows : goal.returns-in-Some-clause-grows
returns-in-Some-clause-grows g c =
    let graph = g.O.Objects.graph c.args.objects.now in
    let a : State = state c.args.self.now in
    let b : State = state c.keep.new.self in
    let n = some_of seconds_in (commit_at graph c.args.id) c.in-Some.seconds c.in-Some.ensures.seconds in
    let inserted = added_new c.args.self.now.seen c.insert.new.self c.args.id c.in_ok-is_new.is_new c.in_ok-is_new.ensures.added c.if-is_new.true c.in_ok-is_new.ensures.updates in
    let more : Added a.seen b.seen c.args.id = subst (λ (s : List ObjectId). Added a.seen s c.args.id) (sym c.keep.ensures.seen) inserted in
    when_fine (Keeps c.args.self.now.limit c.in-Some.seconds c.args.id a.waiting b.waiting) (Grows graph c.args.self.now.limit (c.args.id ∷ []) a b) c.keep.result c.keep.ensures.keeps
    (λ keeps. grows_kept graph c.args.self.now.limit c.args.id n.0 a b more n.1 (keeps_at c.args.self.now.limit c.in-Some.seconds n.0 c.args.id a.waiting b.waiting n.2 keeps))

pub returns-in-Some-clause-cost : goal.returns-in-Some-clause-cost
returns-in-Some-clause-cost g c =
    let graph = g.O.Objects.graph c.args.objects.now in
    let a : State = state c.args.self.now in
    let b : State = state c.keep.new.self in
    let n = some_of seconds_in (commit_at graph c.args.id) c.in-Some.seconds c.in-Some.ensures.seconds in
    let inserted = added_new c.args.self.now.seen c.insert.new.self c.args.id c.in_ok-is_new.is_new c.in_ok-is_new.ensures.added c.if-is_new.true c.in_ok-is_new.ensures.updates in
    let more : Added a.seen b.seen c.args.id = subst (λ (s : List ObjectId). Added a.seen s c.args.id) (sym c.keep.ensures.seen) inserted in
    let less : 1 + room graph b ≤ room graph a =
    either_way (Keeps c.args.self.now.limit c.in-Some.seconds c.args.id a.waiting b.waiting) (b.waiting ≡ a.waiting) (1 + room graph b ≤ room graph a) c.keep.result c.keep.ensures.keeps c.keep.ensures.err
    (λ keeps. (room_kept graph c.args.self.now.limit c.args.id n.0 a b more n.1 (keeps_at c.args.self.now.limit c.in-Some.seconds n.0 c.args.id a.waiting b.waiting n.2 keeps)).0)
    (λ same. (room_read graph c.args.id n.0 a b more n.1 same).0) in
    at_one_more c.args.steps.now c.read_commit.new.steps (room graph a) (room graph b) c.in-Some.ensures.step less

pub returns-in-Some-clause-work : goal.returns-in-Some-clause-work
returns-in-Some-clause-work g c =
    let graph = g.O.Objects.graph c.args.objects.now in
    let a : State = state c.args.self.now in
    let b : State = state c.keep.new.self in
    let n = some_of seconds_in (commit_at graph c.args.id) c.in-Some.seconds c.in-Some.ensures.seconds in
    let inserted = added_new c.args.self.now.seen c.insert.new.self c.args.id c.in_ok-is_new.is_new c.in_ok-is_new.ensures.added c.if-is_new.true c.in_ok-is_new.ensures.updates in
    let more : Added a.seen b.seen c.args.id = subst (λ (s : List ObjectId). Added a.seen s c.args.id) (sym c.keep.ensures.seen) inserted in
    when_fine (Keeps c.args.self.now.limit c.in-Some.seconds c.args.id a.waiting b.waiting) (work graph b ≤ work graph a) c.keep.result c.keep.ensures.keeps
    (λ keeps. (room_kept graph c.args.self.now.limit c.args.id n.0 a b more n.1 (keeps_at c.args.self.now.limit c.in-Some.seconds n.0 c.args.id a.waiting b.waiting n.2 keeps)).1)

pub returns-in-None-clause-grows : goal.returns-in-None-clause-grows
returns-in-None-clause-grows g c =
    let graph = g.O.Objects.graph c.args.objects.now in
    let a : State = state c.args.self.now in
    let b : State = record { seen = c.insert.new.self.keys; waiting = a.waiting } in
    let more : Added a.seen b.seen c.args.id = added_new c.args.self.now.seen c.insert.new.self c.args.id c.in_ok-is_new.is_new c.in_ok-is_new.ensures.added c.if-is_new.true c.in_ok-is_new.ensures.updates in
    grows_none graph c.args.self.now.limit c.args.id a b more (none_of seconds_in (commit_at graph c.args.id) c.in-None.ensures.seconds) refl

pub returns-in-None-clause-cost : goal.returns-in-None-clause-cost
returns-in-None-clause-cost g c =
    let graph = g.O.Objects.graph c.args.objects.now in
    let a : State = state c.args.self.now in
    let b : State = record { seen = c.insert.new.self.keys; waiting = a.waiting } in
    let more : Added a.seen b.seen c.args.id = added_new c.args.self.now.seen c.insert.new.self c.args.id c.in_ok-is_new.is_new c.in_ok-is_new.ensures.added c.if-is_new.true c.in_ok-is_new.ensures.updates in
    at_same c.args.steps.now c.read_commit.new.steps (room graph a) (room graph b) c.in-None.ensures.step (room_none graph c.args.id a b more refl).0

pub returns-in-None-clause-work : goal.returns-in-None-clause-work
returns-in-None-clause-work g c =
    let graph = g.O.Objects.graph c.args.objects.now in
    let a : State = state c.args.self.now in
    let b : State = record { seen = c.insert.new.self.keys; waiting = a.waiting } in
    let more : Added a.seen b.seen c.args.id = added_new c.args.self.now.seen c.insert.new.self c.args.id c.in_ok-is_new.is_new c.in_ok-is_new.ensures.added c.if-is_new.true c.in_ok-is_new.ensures.updates in
    (room_none graph c.args.id a b more refl).1
