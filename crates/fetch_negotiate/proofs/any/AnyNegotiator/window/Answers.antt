use Rattle.std.proofs.Common.{◌≡◌, ◌+◌, List, [], ◌∷◌, ◌++◌, length, Option, Some, None, Result, Ok, Err, OnErr, sym, ap, subst, ◌∙◌, arith, append_assoc, length-append}
use Rattle.std.specs.Option.{option_to_list}
use Rattle.fetch_base.specs.declared.id.ObjectId.{ObjectId}
use Rattle.fetch_negotiate.specs.declared.algorithm.Algorithm.{Algorithm}
use Rattle.fetch_negotiate.specs.Any.{algorithm_of, given_by, offer_of, so_far_of}
use Rattle.fetch_negotiate.proofs.Windowing.{IsTelling, broken_at, ended_at, full_at, telling_further, told_haves, told_later}
use Rattle.fetch_negotiate.proofs.any.AnyNegotiator.window.Goals as goal

on_err : {X E : Type 0} (P : Type 0) (r : Result X E) → P → OnErr r P
on_err P (Ok x) p = tt
on_err P (Err e) p = p

pub returns-in_err-id-clause-broken : goal.returns-in_err-id-clause-broken
returns-in_err-id-clause-broken g c =
    let h = g.O.Objects.graph c.args.objects.now in
    let i = c.loop.invariant in
    let now = so_far_of c.loop.self in
    let next = so_far_of c.next.new.self in
    on_err _ c.from_residual-in_err-id.result
    (broken_at h (algorithm_of c.args.self.now) c.args.size c.loop.counter (so_far_of c.args.self.now) now next c.loop.window.items (given_by c.args.self.now) (given_by c.next.new.self) c.loop-test.true i.long i.telling
    (subst (λ (a : Algorithm). offer_of h a next ≡ offer_of h a now) i.algorithm c.in_err-id.ensures.later) (c.in_err-id.ensures.err ∙ i.given))

pub returns-in-None-clause-haves : goal.returns-in-None-clause-haves
returns-in-None-clause-haves g c =
    let h = g.O.Objects.graph c.args.objects.now in
    let i = c.loop.invariant in
    let now = so_far_of c.loop.self in
    let next = so_far_of c.next.new.self in
    let a = algorithm_of c.args.self.now in
    let have : None ≡ (offer_of h a now).have = sym c.in-None.is ∙ subst (λ (a : Algorithm). c.in_ok-id.field-0 ≡ (offer_of h a now).have) i.algorithm c.in_ok-id.ensures.next in
    let later : next ≡ (offer_of h a now).later = subst (λ (a : Algorithm). next ≡ (offer_of h a now).later) i.algorithm c.in_ok-id.ensures.ok in
    c.in_ok-reserve.ensures.items
    ∙ told_haves h a c.args.size c.loop.counter (so_far_of c.args.self.now) now next c.loop.window.items i.telling (ended_at h a c.args.size c.loop.counter now next c.loop-test.true have later)

pub returns-in-None-clause-later : goal.returns-in-None-clause-later
returns-in-None-clause-later g c =
    let h = g.O.Objects.graph c.args.objects.now in
    let i = c.loop.invariant in
    let now = so_far_of c.loop.self in
    let next = so_far_of c.next.new.self in
    let a = algorithm_of c.args.self.now in
    let have : None ≡ (offer_of h a now).have = sym c.in-None.is ∙ subst (λ (a : Algorithm). c.in_ok-id.field-0 ≡ (offer_of h a now).have) i.algorithm c.in_ok-id.ensures.next in
    let later : next ≡ (offer_of h a now).later = subst (λ (a : Algorithm). next ≡ (offer_of h a now).later) i.algorithm c.in_ok-id.ensures.ok in
    told_later h a c.args.size c.loop.counter (so_far_of c.args.self.now) now next c.loop.window.items i.telling (ended_at h a c.args.size c.loop.counter now next c.loop-test.true have later)

pub loop-preserved : goal.loop-preserved
loop-preserved g c =
    let h = g.O.Objects.graph c.args.objects.now in
    let i = c.loop.invariant in
    let e = c.in_ok-id.ensures in
    let now = so_far_of c.loop.self in
    let next = so_far_of c.next.new.self in
    let a = algorithm_of c.args.self.now in
    let id = c.in-Some.id in
    let given : List ObjectId = given_by c.args.self.now in
    let window : List ObjectId = c.loop.window.items in
    let have : Some id ≡ (offer_of h a now).have = sym c.in-Some.is ∙ subst (λ (a : Algorithm). c.in_ok-id.field-0 ≡ (offer_of h a now).have) i.algorithm e.next in
    let later : next ≡ (offer_of h a now).later = subst (λ (a : Algorithm). next ≡ (offer_of h a now).later) i.algorithm e.ok in
    let items : c.push_reserved.new.self.items ≡ window ++ id ∷ [] = c.push_reserved.ensures.items ∙ ap (λ (l : List ObjectId). l ++ id ∷ []) c.in_ok-reserve.ensures.items in
    record {
      told = e.told;
      algorithm = e.algorithm ∙ i.algorithm;
      telling = subst (λ (l : List ObjectId). IsTelling h a c.args.size (c.loop.counter + 1) (so_far_of c.args.self.now) next l) (sym items)
          (telling_further h a c.args.size c.loop.counter (so_far_of c.args.self.now) now next window id c.loop-test.true i.telling have later);
      given = e.given ∙ ap (λ (l : List ObjectId). l ++ option_to_list c.in_ok-id.field-0) i.given ∙ ap (λ (o : Option ObjectId). given ++ window ++ option_to_list o) c.in-Some.is
          ∙ append_assoc given window (id ∷ []) ∙ ap (λ (l : List ObjectId). given ++ l) (sym items);
      long = let sum = length-append window (id ∷ []) in let same : length c.push_reserved.new.self.items ≡ length (window ++ id ∷ []) = ap (λ (l : List ObjectId). length l) items in
          let before = i.long in omega arith;
    }

pub returns-clause-haves : goal.returns-clause-haves
returns-clause-haves g c =
    let h = g.O.Objects.graph c.args.objects.now in
    let a = algorithm_of c.args.self.now in
    let now = so_far_of c.loop.self in
    told_haves h a c.args.size c.loop.counter (so_far_of c.args.self.now) now now c.loop.window.items c.loop.invariant.telling (full_at h a c.args.size c.loop.counter now (let test = c.loop-test.false in omega arith))

pub returns-clause-later : goal.returns-clause-later
returns-clause-later g c =
    let h = g.O.Objects.graph c.args.objects.now in
    let a = algorithm_of c.args.self.now in
    let now = so_far_of c.loop.self in
    told_later h a c.args.size c.loop.counter (so_far_of c.args.self.now) now now c.loop.window.items c.loop.invariant.telling (full_at h a c.args.size c.loop.counter now (let test = c.loop-test.false in omega arith))
