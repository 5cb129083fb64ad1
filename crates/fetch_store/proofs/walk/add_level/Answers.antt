use Rattle.std.proofs.Common.{◌≡◌, ◌<◌, [], length, drop, sum_by, refl, sym, ap, ◌∙◌, arith}
use Rattle.std.proofs.lemmas.List.{append-nil, drop_all, length-append}
use Rattle.fetch_store.specs.Found.{with_next}
use Rattle.fetch_store.specs.Spread.{next_to}
use Rattle.fetch_store.proofs.Spreading.{IsLevelStep, level_step}
use Rattle.fetch_store.proofs.walk.add_level.Goals as goal

pub loop-place-init : goal.loop-place-init
loop-place-init g c = record { found = refl; begins = ([], sym (append-nil c.args.found.now)); steps = refl; grows = omega arith }

pub bounds-as_slice-place : goal.bounds-as_slice-place
bounds-as_slice-place g c =
    let begins = c.loop-place.invariant.begins in
    omega (arith, ap length c.as_slice.ensures, ap length begins.1, length-append c.args.found.now begins.0)

pub returns-in_err-append_next-clause-grows : goal.returns-in_err-append_next-clause-grows
returns-in_err-append_next-clause-grows g c = c.loop-place.invariant.grows

pub returns-in_err-add_each-clause-grows : goal.returns-in_err-add_each-clause-grows
returns-in_err-add_each-clause-grows g c = omega (arith, c.add_each.ensures.grows, c.loop-place.invariant.grows)

pub loop-place-preserved : goal.loop-place-preserved
loop-place-preserved g c =
    let nexts = g.N.Next.nexts c.args.next.now in
    let within : c.loop-place.place < length c.args.found.now = omega arith in
    let begins = c.loop-place.invariant.begins in
    let s : IsLevelStep nexts c.args.found.now c.loop-place.found c.add_each.new.found c.as_slice-in-loop-place.result.now c.loop-place.place =
    level_step nexts c.args.found.now c.loop-place.found begins.0 c.loop-place.place _ c.as_slice.result.now c.clear.new.self.items c.append_next.new.into.items c.as_slice-in-loop-place.result.now c.add_each.new.found within begins.1
    c.as_slice.ensures c.clear.ensures.items c.in_ok-append_next.ensures c.as_slice-in-loop-place.ensures.value c.in_ok-add_each.ensures.found in
    record { found = s.found ∙ c.loop-place.invariant.found; begins = s.begins; steps = omega (arith, s.length, c.in_ok-add_each.ensures.steps, c.loop-place.invariant.steps); grows = omega (arith, c.add_each.ensures.grows, c.loop-place.invariant.grows) }

pub returns-clause-found : goal.returns-clause-found
returns-clause-found g c =
    sym (ap (with_next (g.N.Next.nexts c.args.next.now) c.loop-place.found) (drop_all c.loop-place.place c.args.found.now (omega arith))) ∙ c.loop-place.invariant.found

pub returns-clause-steps : goal.returns-clause-steps
returns-clause-steps g c =
    let looked : sum_by (λ id. length (next_to (g.N.Next.nexts c.args.next.now) id)) (drop c.loop-place.place c.args.found.now) ≡ 0 =
    ap (sum_by (λ id. length (next_to (g.N.Next.nexts c.args.next.now) id))) (drop_all c.loop-place.place c.args.found.now (omega arith)) in
    omega (arith, looked, c.loop-place.invariant.steps)

pub returns-clause-grows : goal.returns-clause-grows
returns-clause-grows g c = c.loop-place.invariant.grows
