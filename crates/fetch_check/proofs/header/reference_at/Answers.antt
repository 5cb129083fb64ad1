use Rattle.std.proofs.Common.{Ok, refl, ap, ◌≡◌}
use Rattle.fetch_check.proofs.Found.{no_reference, untold_reference, reference_line, reference_told, none_mapped}
use Rattle.fetch_check.proofs.header.reference_at.Goals as goal

pub returns-in_default-clause-none : goal.returns-in_default-clause-none
returns-in_default-clause-none c = λ _. no_reference c.args.bytes.now c.args.place c.args.hash (c.in_default.ensures.none refl)

pub returns-clause-line : goal.returns-clause-line
returns-clause-line c = reference_line c.args.bytes.now c.args.place c.in-Some.next c.in-Some.payload.now c.args.hash c.in_ok-found.found c.ending_at.result c.in-Some.ensures.line c.in_ok-found.ensures.told c.ending_at.ensures

pub returns-clause-told : goal.returns-clause-told
returns-clause-told c = reference_told c.in-Some.payload.now c.in-Some.next c.args.hash c.in_ok-found.found c.ending_at.result c.in_ok-found.ensures.told c.ending_at.ensures

pub returns-clause-none : goal.returns-clause-none
returns-clause-none c = λ none.
    untold_reference c.args.bytes.now c.args.place c.in-Some.next c.in-Some.payload.now c.args.hash c.in-Some.ensures.line
    (c.in_ok-found.ensures.none (let is : c.in_ok-found.found ≡ _ = none_mapped c.in-Some.next c.in_ok-found.found c.ending_at.result c.ending_at.ensures (let e : c.ending_at.result ≡ _ = cc in e) in ap (λ x. Ok x) is))
