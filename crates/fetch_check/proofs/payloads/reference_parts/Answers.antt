use Rattle.std.proofs.Common.{◌≡◌, ◌++◌, ◌∷◌, [], codes, sym}
use Rattle.fetch_base.specs.Lines.{IsWithout}
use Rattle.fetch_base.specs.Scan.{split_first}
use Rattle.fetch_check.proofs.LinesTold.{if_view, none_view, ref_split, ref_unsplit}
use Rattle.fetch_check.proofs.payloads.reference_parts.Goals as goal

pub returns-clause-text : goal.returns-clause-text
returns-clause-text c =
    let payload = c.args.payload.now in
    let text = c.in_ok-text.text.now in
    let front = c.in_ok-text-2.text.now in
    if_view c.split_first.result (λ x. (x.0.now, x.1.now)) (λ first name. payload ≡ codes "ref " ++ first ++ 32 ∷ name ++ 10 ∷ []) (split_first 32 front) c.split_first.ensures
    (λ first name cut. (ref_split payload text front first name (sym c.in_ok-text.ensures) c.in_ok-text-2.ensures.front cut).0)

pub returns-clause-word : goal.returns-clause-word
returns-clause-word c =
    let payload = c.args.payload.now in
    let text = c.in_ok-text.text.now in
    let front = c.in_ok-text-2.text.now in
    if_view c.split_first.result (λ x. (x.0.now, x.1.now)) (λ first name. IsWithout 32 first) (split_first 32 front) c.split_first.ensures
    (λ first name cut. (ref_split payload text front first name (sym c.in_ok-text.ensures) c.in_ok-text-2.ensures.front cut).1)

pub returns-clause-none : goal.returns-clause-none
returns-clause-none c = λ none.
    let front = c.in_ok-text-2.text.now in
    ref_unsplit c.args.payload.now c.in_ok-text.text.now front (sym c.in_ok-text.ensures) c.in_ok-text-2.ensures.front
    (none_view c.split_first.result (λ x. (x.0.now, x.1.now)) (split_first 32 front) c.split_first.ensures none)
