use Rattle.std.proofs.Common.{refl}
use Rattle.fetch_check.proofs.Found.{no_id, untold_id, id_line}
use Rattle.fetch_check.proofs.header.id_at.Goals as goal

pub returns-in_err-payload-clause-none : goal.returns-in_err-payload-clause-none
returns-in_err-payload-clause-none c = λ _. no_id c.args.bytes.now c.args.place c.args.hash (c.in_err-payload.ensures.none refl)

pub returns-in_err-id-clause-none : goal.returns-in_err-id-clause-none
returns-in_err-id-clause-none c = λ _. untold_id c.args.bytes.now c.args.place c.in_ok-payload.next c.in_ok-payload.payload.now c.args.hash c.in_ok-payload.ensures.line (c.in_err-id.ensures.none refl)

pub returns-clause-line : goal.returns-clause-line
returns-clause-line c = id_line c.args.bytes.now c.args.place c.in_ok-payload.next c.in_ok-payload.payload.now c.args.hash c.in_ok-id.id c.in_ok-payload.ensures.line c.in_ok-id.ensures.told

pub returns-clause-told : goal.returns-clause-told
returns-clause-told c = c.in_ok-id.ensures.told.of_hash
