use Rattle.std.proofs.Common.{◌≡◌, Result, Ok, Err, None, OnOk, IfErr}
use Rattle.std.proofs.lemmas.Result.{err_from_is_err_and}
use Rattle.fetch_conversation.specs.Conversing.{Tells, IsClear, IsRefusal, arguments_told}
use Rattle.fetch_conversation.specs.ConverseStage.{unmapped, unlike, unfit, lacked, is_border_needed}
use Rattle.fetch_conversation.specs.Exchange.{FetchArgumentsValue}
use Rattle.fetch_conversation.specs.ListStage.{shown}
use Rattle.fetch_conversation.specs.declared.fetch.Error.{Error}
use Rattle.fetch_conversation.proofs.Fetches.{none_told, unmapped_stage, unlike_stage, unfit_stage, lacking_stage}
use Rattle.fetch_conversation.proofs.conversing.refuse.Goals as goal

clear_by : (t : FetchArgumentsValue) (r : Result (Unit {0}) Error) → unmapped t.listed.ref_map ≡ None → unlike t.settings.kind t.listed.handshake.object_hash ≡ None → unfit t.settings ≡ None → Tells (lacked t.listed.handshake (is_border_needed t.view.border t.shallow)) r → OnOk r (IsClear t)
clear_by t (Ok x) none same fit h = record { mapped = none; alike = same; fit = fit; offered = none_told (lacked t.listed.handshake (is_border_needed t.view.border t.shallow)) x h }
clear_by t (Err e) none same fit h = tt

lacking_by : (t : FetchArgumentsValue) (r : Result (Unit {0}) Error) → unmapped t.listed.ref_map ≡ None → unlike t.settings.kind t.listed.handshake.object_hash ≡ None → unfit t.settings ≡ None → Tells (lacked t.listed.handshake (is_border_needed t.view.border t.shallow)) r → IfErr r (λ e. IsRefusal t e)
lacking_by t (Ok x) none same fit h = tt
lacking_by t (Err e) none same fit h = λ isnt bound graph. lacking_stage (Unit {0}) bound graph t e none same fit h isnt

pub returns-in_err-refuse_unmapped-clause-refused : goal.returns-in_err-refuse_unmapped-clause-refused
returns-in_err-refuse_unmapped-clause-refused c =
    let t : FetchArgumentsValue = arguments_told (shown c.args.listed.now) c.args.arguments.now in
    let p = err_from_is_err_and c.from_residual.result c.from_residual.ensures.1 in
    rw (p.1, p.2) (λ isnt bound graph. unmapped_stage (Unit {0}) bound graph t c.in_err-refuse_unmapped.field-0.0 c.in_err-refuse_unmapped.ensures.told isnt)

pub returns-in_err-refuse_other_hash-clause-refused : goal.returns-in_err-refuse_other_hash-clause-refused
returns-in_err-refuse_other_hash-clause-refused c =
    let t : FetchArgumentsValue = arguments_told (shown c.args.listed.now) c.args.arguments.now in
    let p = err_from_is_err_and c.from_residual-in_err-refuse_other_hash.result c.from_residual-in_err-refuse_other_hash.ensures.1 in
    rw (p.1, p.2) (λ isnt bound graph. unlike_stage (Unit {0}) bound graph t c.in_err-refuse_other_hash.field-0.0 (none_told (unmapped t.listed.ref_map) tt c.in_ok-refuse_unmapped.ensures.told) c.in_err-refuse_other_hash.ensures.told isnt)

pub returns-in_err-refuse_settings-clause-refused : goal.returns-in_err-refuse_settings-clause-refused
returns-in_err-refuse_settings-clause-refused c =
    let t : FetchArgumentsValue = arguments_told (shown c.args.listed.now) c.args.arguments.now in
    let p = err_from_is_err_and c.from_residual-in_err-refuse_settings.result c.from_residual-in_err-refuse_settings.ensures.1 in
    rw (p.1, p.2)
    (λ isnt bound graph. unfit_stage (Unit {0}) bound graph t c.in_err-refuse_settings.field-0.0 (none_told (unmapped t.listed.ref_map) tt c.in_ok-refuse_unmapped.ensures.told) (none_told (unlike t.settings.kind t.listed.handshake.object_hash) tt c.in_ok-refuse_other_hash.ensures.told) c.in_err-refuse_settings.ensures.told isnt)

pub returns-clause-clear : goal.returns-clause-clear
returns-clause-clear c =
    let t : FetchArgumentsValue = arguments_told (shown c.args.listed.now) c.args.arguments.now in
    clear_by t c.refuse_lacking.result (none_told (unmapped t.listed.ref_map) tt c.in_ok-refuse_unmapped.ensures.told) (none_told (unlike t.settings.kind t.listed.handshake.object_hash) tt c.in_ok-refuse_other_hash.ensures.told) (none_told (unfit t.settings) tt c.in_ok-refuse_settings.ensures.told) c.refuse_lacking.ensures.told

pub returns-clause-refused : goal.returns-clause-refused
returns-clause-refused c =
    let t : FetchArgumentsValue = arguments_told (shown c.args.listed.now) c.args.arguments.now in
    lacking_by t c.refuse_lacking.result (none_told (unmapped t.listed.ref_map) tt c.in_ok-refuse_unmapped.ensures.told) (none_told (unlike t.settings.kind t.listed.handshake.object_hash) tt c.in_ok-refuse_other_hash.ensures.told) (none_told (unfit t.settings) tt c.in_ok-refuse_settings.ensures.told) c.refuse_lacking.ensures.told
