use Rattle.std.proofs.Common.{refl}
use Rattle.fetch_lines.specs.LineViews.{line_of}
use Rattle.fetch_check.proofs.Found.{as_payload, no_payload, other_line}
use Rattle.fetch_check.proofs.header.payload_at.Goals as goal

pub returns-in_err-line-clause-none : goal.returns-in_err-line-clause-none
returns-in_err-line-clause-none c = λ _. no_payload c.args.bytes.now c.args.place (c.in_err-line.ensures.none refl)

pub returns-in_err-payload-clause-none : goal.returns-in_err-payload-clause-none
returns-in_err-payload-clause-none c = λ _. other_line c.args.bytes.now c.args.place c.in_ok-line.next (line_of c.in_ok-line.line) c.in_ok-line.ensures.line (c.in_err-payload.ensures.none refl)

pub returns-clause-line : goal.returns-clause-line
returns-clause-line c = as_payload c.args.bytes.now c.args.place c.in_ok-line.next (line_of c.in_ok-line.line) c.in_ok-payload.payload.now c.in_ok-line.ensures.line c.in_ok-payload.ensures.payload
