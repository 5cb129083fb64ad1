use Rattle.std.proofs.Common.{refl, sym, ◌∙◌}
use Rattle.fetch_check.proofs.Above.{id_more}
use Rattle.fetch_check.proofs.Found.{id_not_above, no_more_ids}
use Rattle.fetch_check.proofs.header.next_id.Goals as goal

pub returns-in_err-id-clause-none : goal.returns-in_err-id-clause-none
returns-in_err-id-clause-none c = λ _. no_more_ids c.args.bytes.now c.args.place c.args.hash c.args.before.now (c.in_err-id.ensures.none refl)

pub returns-then-is_id_above-clause-may : goal.returns-then-is_id_above-clause-may
returns-then-is_id_above-clause-may c = id_more c.args.hash c.args.before.now c.in_ok-id.id c.requires.before c.in_ok-id.ensures.told (sym c.is_id_above.ensures ∙ c.if-is_id_above.true)

pub returns-else-is_id_above-clause-none : goal.returns-else-is_id_above-clause-none
returns-else-is_id_above-clause-none c =
    λ _. id_not_above c.args.bytes.now c.args.place c.in_ok-id.next c.args.hash c.args.before.now c.in_ok-id.id c.in_ok-id.ensures.line c.in_ok-id.ensures.told (sym c.is_id_above.ensures ∙ c.if-is_id_above.false)
