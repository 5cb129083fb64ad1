use Rattle.std.proofs.Common.{refl}
use Rattle.fetch_refs.proofs.FirstLines.{has_space, has_id, has_feed, put_together}
use Rattle.fetch_refs.proofs.reading.first_line.Goals as goal

pub returns-in_err-digits-clause-none : goal.returns-in_err-digits-clause-none
returns-in_err-digits-clause-none c = λ _ e more entry is. has_space c.args.kind c.args.text.now e more entry is c.in_err-digits.ensures

pub returns-in_err-id-clause-none : goal.returns-in_err-id-clause-none
returns-in_err-id-clause-none c =
    λ _ e more entry is. has_id c.args.kind c.args.text.now e more entry is c.in_ok-digits.digits.now c.in_ok-digits.behind.now c.in_ok-digits.ensures (c.in_err-id.ensures.none refl)

pub returns-in_err-name-clause-none : goal.returns-in_err-name-clause-none
returns-in_err-name-clause-none c =
    λ _ e more entry is. has_feed c.args.kind c.args.text.now e more entry is c.in_ok-digits.digits.now c.in_ok-digits.behind.now c.in_ok-digits.ensures c.in_err-name.ensures

pub returns-clause-line : goal.returns-clause-line
returns-clause-line c =
    (put_together c.args.text.now c.in_ok-digits.digits.now c.in_ok-digits.behind.now c.in_ok-name.name.now c.in_ok-name.rest.now c.in_ok-id.id c.in_ok-digits.ensures c.in_ok-id.ensures.written c.in_ok-name.ensures).0

pub returns-clause-name : goal.returns-clause-name
returns-clause-name c =
    (put_together c.args.text.now c.in_ok-digits.digits.now c.in_ok-digits.behind.now c.in_ok-name.name.now c.in_ok-name.rest.now c.in_ok-id.id c.in_ok-digits.ensures c.in_ok-id.ensures.written c.in_ok-name.ensures).1
