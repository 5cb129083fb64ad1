use Rattle.std.proofs.Common.{◌<◌, [], length, not, sym, ap, ◌∙◌, arith}
use Rattle.fetch_base.specs.declared.id.ObjectId.TheVariants.{Sha1}
use Rattle.fetch_asked.specs.Requests.{has_id}
use Rattle.fetch_serve.proofs.Collecting.{first_here, first_later}
use Rattle.fetch_serve.proofs.offered.first_outside.Goals as goal

pub returns-then-not-stands_among : goal.returns-then-not-stands_among
returns-then-not-stands_among c =
    let lt : c.loop-id.id-index < length c.args.wants.now = omega (arith, c.loop-id-test.true) in
    sym (first_here (λ id. not (has_id id c.args.ids.now)) c.args.wants.now c.loop-id.id-index (Sha1 []) lt (ap not (sym c.stands_among.ensures ∙ c.if-not-stands_among.true))) ∙ c.loop-id.invariant

pub loop-id-preserved : goal.loop-id-preserved
loop-id-preserved c =
    let lt : c.loop-id.id-index < length c.args.wants.now = omega (arith, c.loop-id-test.true) in
    sym (first_later (λ id. not (has_id id c.args.ids.now)) c.args.wants.now c.loop-id.id-index (Sha1 []) lt (ap not (sym c.stands_among.ensures ∙ c.if-not-stands_among.false))) ∙ c.loop-id.invariant
