use Rattle.std.proofs.Common.{◌≡◌, ◌≢◌, true, ◌∷◌, [], length, ap, subst, ◌∙◌, arith}
use Rattle.fetch_objects.specs.References.{parents_left}
use Rattle.fetch_update.specs.Dated.{parents_at}
use Rattle.fetch_update.specs.Walks.{State, state, has, Grows}
use Rattle.fetch_update.proofs.Expansions.{grows_then, one_of, passed_more, passed_all}
use Rattle.fetch_update.proofs.walk.Walk.expand.Goals as goal

pub returns-clause-done : goal.returns-clause-done
returns-clause-done g c =
    let parents = parents_at (g.O.Objects.graph c.args.objects.now) c.args.id.now in
    λ _. passed_all (λ p. (p ≢ c.args.to.now) × (has c.loop-parent.self.seen.keys p ≡ true)) parents (parents_left c.loop-parent.parents) c.loop-parent.invariant.passed c.in_default.ensures.parent.0

pub loop-parent-preserved : goal.loop-parent-preserved
loop-parent-preserved g c =
    let graph = g.O.Objects.graph c.args.objects.now in
    let parents = parents_at graph c.args.id.now in
    let p = c.in-Some.parent in
    let a : State = state c.args.self.now in
    let b : State = state c.loop-parent.self in
    let e : State = state c.discover.new.self in
    let left = parents_left c.loop-parent.parents in
    let rest = parents_left c.read_parent.new.parents in
    let step : left ≡ p ∷ rest = c.in-Some.ensures.parent in
    let grown : Grows graph c.args.self.now.limit (p ∷ []) b e = subst (λ limit. Grows graph limit (p ∷ []) b e) c.loop-parent.invariant.limit c.in_ok-discover.ensures.grows in
    let other : p ≢ c.args.to.now = λ same. absurd (let found = c.same_id.ensures.1 same in let no = c.if-same_id.false in cc) in
    record {
      limit = c.discover.ensures.limit ∙ c.loop-parent.invariant.limit;
      passed = passed_more (λ q. (q ≢ c.args.to.now) × (has b.seen q ≡ true)) (λ q. (q ≢ c.args.to.now) × (has e.seen q ≡ true)) parents left rest p c.loop-parent.invariant.passed step
          (λ q d. (d.0, grown.seen q d.1)) (other, c.in_ok-discover.ensures.seen);
      grows = grows_then graph c.args.self.now.limit parents p a b e c.loop-parent.invariant.grows
          (one_of (λ q. (q ≢ c.args.to.now) × (has b.seen q ≡ true)) parents left rest p c.loop-parent.invariant.passed step) grown;
      cost = omega (arith, c.discover.ensures.cost, c.in-Some.ensures.step, c.loop-parent.invariant.cost, ap length step);
      work = omega (arith, c.in_ok-discover.ensures.work, c.loop-parent.invariant.work);
      rises = omega (arith, c.discover.ensures.rises, c.in-Some.ensures.step, c.loop-parent.invariant.rises);
    }
