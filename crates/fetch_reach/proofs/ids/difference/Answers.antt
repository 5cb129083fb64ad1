use Rattle.std.proofs.Common.{◌≡◌, ◌<◌, ℕ, Bool, true, cond, [], ◌∷◌, ◌++◌, length, get_or, filter, not, ⊎_elim, ◌∙◌, subst, ap, sym, arith}
use Rattle.std.specs.Ordering.{is_lt}
use Rattle.std.specs.List.Sorted.{IsStrictlySortedBy}
use Rattle.std.proofs.lemmas.Bool.{cases_lt}
use Rattle.std.proofs.lemmas.List.{take_all}
use Rattle.std.proofs.lemmas.List.Kept.{IsStrictlySortedBy-filter}
use Rattle.std.proofs.lemmas.Map.Keys.{Less-from_sorted}
use Rattle.fetch_base.specs.declared.id.ObjectId.{ObjectId}
use Rattle.fetch_base.specs.declared.id.ObjectId.TheVariants.{Sha1}
use Rattle.fetch_base.specs.Id.{id_cmp}
use Rattle.fetch_store.proofs.Borders.{alike}
use Rattle.fetch_reach.specs.Sets.{is_among}
use Rattle.fetch_reach.proofs.Sets.{of_one, at_place, place_among, below_on, one_more}
use Rattle.fetch_reach.proofs.ids.difference.Goals as goal
use Rattle.fetch_reach.proofs.ids.difference.Goals.{then-not-stands_at+in_ok-push, else-not-stands_at}

pub loop-id-preserved : goal.loop-id-preserved
loop-id-preserved c =
    let ids = c.args.ids.now in
    let without = c.args.without.now in
    let i = c.loop-id.id-index in
    let none = Sha1 [] in
    let id = get_or ids i none in
    let place = c.first_not_below-place.result in
    let found = c.first_not_below-place.ensures in
    let lt : i < length ids = omega (arith, c.loop-id-test.true) in
    let before : (k : ℕ) → k < place → is_lt (id_cmp (get_or without k none) id) ≡ true = λ k under.
    ⊎_elim (λ old. c.loop-id.invariant.below k i old (omega arith) lt) (λ new. found.below k none new under) (cases_lt k c.loop-id.place) in
    let known : c.stands_at.result ≡ is_among id without =
    alike c.stands_at.result (is_among id without) (λ e. let p = c.stands_at.ensures.0 e in place_among id without place p.0 (p.1))
    (λ e. c.stands_at.ensures.1 (at_place id none without place c.requires.without before (λ within. found.at none within) e)) in
    let now : c.if-not-stands_at.left ≡ cond c.stands_at.result c.loop-id.left (c.loop-id.left ++ id ∷ []) =
    elim c.if-not-stands_at.branch [
      | then-not-stands_at+in_ok-push w ↦ w.left-is ∙ w.in_ok-push.ensures.ok ∙ sym (ap (λ b. cond b c.loop-id.left (c.loop-id.left ++ id ∷ [])) w.if-not-stands_at.true)
      | else-not-stands_at w ↦ w.left-is ∙ sym (ap (λ b. cond b c.loop-id.left (c.loop-id.left ++ id ∷ [])) w.if-not-stands_at.false)
    ] in
    record {
      left = one_more ids without i none c.loop-id.left c.if-not-stands_at.left c.stands_at.result lt known c.loop-id.invariant.left now;
      within = found.within.1;
      below = λ k j under from inside. below_on (get_or without k none) id (get_or ids j none) (before k under) (Less-from_sorted id_cmp ids i j none c.requires.ids (omega arith) inside);
    }

pub returns-clause-each : goal.returns-clause-each
returns-clause-each c =
    of_one c.args.ids.now c.args.without.now c.loop-id.left
    (c.loop-id.invariant.left ∙ ap (filter (λ q. not (is_among q c.args.without.now))) (take_all c.loop-id.id-index c.args.ids.now (omega (arith, c.loop-id-test.false))))

pub returns-clause-ascending : goal.returns-clause-ascending
returns-clause-ascending c =
    let t : ObjectId → Bool = λ q. not (is_among q c.args.without.now) in
    subst (IsStrictlySortedBy id_cmp)
    (sym (c.loop-id.invariant.left ∙ ap (filter t) (take_all c.loop-id.id-index c.args.ids.now (omega (arith, c.loop-id-test.false)))))
    (IsStrictlySortedBy-filter id_cmp t c.args.ids.now c.requires.ids)
