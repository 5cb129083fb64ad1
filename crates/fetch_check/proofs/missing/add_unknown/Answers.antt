use Rattle.std.proofs.Common.{◌≡◌, ◌<◌, [], cond, length, get_or, sym, ap, ◌∙◌, arith}
use Rattle.fetch_base.specs.declared.id.ObjectId.TheVariants.{Sha1}
use Rattle.fetch_base.specs.Distinct.{with_distinct}
use Rattle.fetch_check.specs.declared.missing.Pair.{Pair}
use Rattle.fetch_check.specs.Pairs.{pair_cmp}
use Rattle.fetch_check.proofs.Firsts.{added, next_unknown}
use Rattle.fetch_check.proofs.missing.add_unknown.Goals as goal
use Rattle.fetch_check.proofs.missing.add_unknown.Goals.{then-not-stands_commit+in_ok-add, else-not-stands_commit}

pub loop-id-preserved : goal.loop-id-preserved
loop-id-preserved c =
    let ids = c.args.ids.now in
    let i = c.loop-id.id-index in
    let id = get_or ids i (Sha1 []) in
    let pair : Pair = record { from = id; to = id } in
    let more = with_distinct pair_cmp (λ (key : Pair). key) c.loop-id.found pair in
    let now : c.if-not-stands_commit.found ≡ cond c.stands_commit.result c.loop-id.found more =
    elim c.if-not-stands_commit.branch [
      | then-not-stands_commit+in_ok-add w ↦ w.found-is ∙ added c.loop-id.found w.add.new.self pair w.in_ok-add.ensures.added ∙ sym (ap (λ b. cond b c.loop-id.found more) w.if-not-stands_commit.true)
      | else-not-stands_commit w ↦ w.found-is ∙ sym (ap (λ b. cond b c.loop-id.found more) w.if-not-stands_commit.false)
    ] in
    let lt : i < length ids = omega (arith, c.loop-id-test.true) in
    next_unknown c.args.store.now.objects ids i (Sha1 []) c.loop-id.found c.if-not-stands_commit.found c.stands_commit.result lt (sym c.stands_commit.ensures) now ∙ c.loop-id.invariant
