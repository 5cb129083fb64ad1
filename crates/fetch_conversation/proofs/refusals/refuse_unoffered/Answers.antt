use Rattle.std.proofs.Common.{◌≡◌, Option, Some, None, Result, Err}
use Rattle.std.specs.Option.{option_or}
use Rattle.std.proofs.lemmas.Result.{err_from_is_err_and}
use Rattle.fetch_lines.specs.RequestWords.{plain_pack}
use Rattle.fetch_conversation.specs.Conversing.{Tells}
use Rattle.fetch_conversation.specs.ConverseStage.{lacks, fetch_feature, shallow_feature}
use Rattle.fetch_conversation.specs.declared.fetch.Error.{Error}
use Rattle.fetch_conversation.proofs.Fetches.{none_told}
use Rattle.fetch_conversation.proofs.refusals.refuse_unoffered.Goals as goal

first_told : (a b : Option Error) (e : Error) → Tells {T = Unit {0}} a (Err e) → Tells {T = Unit {0}} (option_or a b) (Err e)
first_told None None e h = h
first_told None (Some x) e h = λ other. absurd (other h)
first_told (Some x) b e h = h

then_told : (a b : Option Error) (r : Result (Unit {0}) Error) → a ≡ None → Tells b r → Tells (option_or a b) r
then_told a b r none h = rw none h

pub returns-in_err-refuse_unless-clause-told : goal.returns-in_err-refuse_unless-clause-told
unfolding fetch_feature
returns-in_err-refuse_unless-clause-told c =
    let p = err_from_is_err_and c.from_residual.result c.from_residual.ensures.1 in
    rw (p.1, p.2) (first_told (lacks c.args.fetch fetch_feature) _ c.in_err-refuse_unless.field-0.0 c.in_err-refuse_unless.ensures.told)

pub returns-in_err-refuse_unless-2-clause-told : goal.returns-in_err-refuse_unless-2-clause-told
unfolding fetch_feature plain_pack
returns-in_err-refuse_unless-2-clause-told c =
    let p = err_from_is_err_and c.from_residual-in_err-refuse_unless-2.result c.from_residual-in_err-refuse_unless-2.ensures.1 in
    rw (p.1, p.2) (then_told (lacks c.args.fetch fetch_feature) _ _ (none_told (lacks c.args.fetch fetch_feature) tt c.in_ok-refuse_unless.ensures.told)
    (first_told (lacks c.args.packs plain_pack) _ c.in_err-refuse_unless-2.field-0.0 c.in_err-refuse_unless-2.ensures.told))

pub returns-clause-told : goal.returns-clause-told
unfolding fetch_feature plain_pack shallow_feature
returns-clause-told c =
    then_told (lacks c.args.fetch fetch_feature) _ _ (none_told (lacks c.args.fetch fetch_feature) tt c.in_ok-refuse_unless.ensures.told)
    (then_told (lacks c.args.packs plain_pack) _ _ (none_told (lacks c.args.packs plain_pack) tt c.in_ok-refuse_unless-2.ensures.told) c.refuse_unless-3.ensures.told)
