use Rattle.std.proofs.Common.{ℕ, get_or, refl, sym, ap, ◌∙◌}
use Rattle.std.specs.Option.{option_copied}
use Rattle.fetch_store.proofs.FrontPlaces.{found, absent, other}
use Rattle.fetch_store.proofs.fronts.find_by_front.Goals as goal

pub returns-in_err-at : goal.returns-in_err-at
returns-in_err-at c =
    let none = rw c.front.ensures at c.in_err-at.ensures.at in
    ap option_copied c.from_residual.ensures ∙ absent c.args.objects.now c.args.places.now c.requires c.args.id.now none

pub returns-then-same_id : goal.returns-then-same_id
returns-then-same_id c =
    let p : ℕ × ℕ = (0, 0) in
    let place : ℕ = (get_or c.args.places.now c.in_ok-at.at p).1 in
    sym (found c.args.objects.now c.args.places.now c.requires place c.args.id.now c.index-objects-places.result (c.requires.within c.in_ok-at.at p c.in_ok-at.ensures.within) c.index-objects-places.is (c.same_id.ensures.0 c.if-same_id.true))

pub returns-else-same_id : goal.returns-else-same_id
returns-else-same_id c =
    let p : ℕ × ℕ = (0, 0) in
    other c.args.objects.now c.args.places.now c.requires c.args.id.now c.in_ok-at.at (get_or c.args.places.now c.in_ok-at.at p).1 p c.index-objects-places.result c.in_ok-at.ensures.within
    (c.in_ok-at.ensures.at p ∙ c.front.ensures) refl c.index-objects-places.is (λ same. cc (sym c.if-same_id.false ∙ c.same_id.ensures.1 same))
