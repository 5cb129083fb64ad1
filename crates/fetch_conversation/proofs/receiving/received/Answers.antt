use Rattle.std.proofs.Common.{◌≡◌, false, Some, None, Result, Ok, Err, IfOk, IfErr, refl}
use Rattle.std.proofs.lemmas.Result.{err_from_is_err_and}
use Rattle.fetch_conversation.specs.Conversing.{arguments_told}
use Rattle.fetch_conversation.specs.ConverseStage.{received, rejected, read_of}
use Rattle.fetch_conversation.specs.Errors.{is_free_receiving}
use Rattle.fetch_conversation.specs.Exchange.{FetchArgumentsValue}
use Rattle.fetch_conversation.specs.ListStage.{shown}
use Rattle.fetch_conversation.specs.Rounds.{Negotiated}
use Rattle.fetch_conversation.specs.declared.conversing.Received.{Received}
use Rattle.fetch_conversation.specs.declared.fetch.Error.{Error}
use Rattle.fetch_conversation.proofs.Fetches.{none_told, some_told}
use Rattle.fetch_conversation.proofs.receiving.received.Goals as goal

is_rejected : (t : FetchArgumentsValue) (n : Negotiated) (e : Error) → rejected t.settings t.view t.shallow n.reply ≡ Some e → received t n ≡ Err e
unfolding received
is_rejected t n e is = rw is refl

is_read : (t : FetchArgumentsValue) (n : Negotiated) → rejected t.settings t.view t.shallow n.reply ≡ None → received t n ≡ read_of t.listed.handshake.object_hash t.dry_run n
unfolding received
is_read t n is = rw is refl

ok_by : (t : FetchArgumentsValue) (n : Negotiated) (result : Result Received Error) → rejected t.settings t.view t.shallow n.reply ≡ None → IfOk result (λ r. read_of t.listed.handshake.object_hash t.dry_run n ≡ Ok (Some r)) → IfOk result (λ r. received t n ≡ Ok (Some r))
ok_by t n (Ok r) is h = rw (is_read t n is) h
ok_by t n (Err e) is h = tt

err_by : (t : FetchArgumentsValue) (n : Negotiated) (result : Result Received Error) → rejected t.settings t.view t.shallow n.reply ≡ None → IfErr result (λ e. is_free_receiving e ≡ false → read_of t.listed.handshake.object_hash t.dry_run n ≡ Err e)
    → IfErr result (λ e. is_free_receiving e ≡ false → received t n ≡ Err e)
err_by t n (Ok r) is h = tt
err_by t n (Err e) is h = λ isnt. rw (is_read t n is) (h isnt)

pub returns-in_err-refuse_border-clause-refused : goal.returns-in_err-refuse_border-clause-refused
returns-in_err-refuse_border-clause-refused g c =
    let t : FetchArgumentsValue = arguments_told (shown c.args.listed.now) c.args.arguments.now in
    let n : Negotiated = record { rounds = c.args.negotiate.rounds; reply = c.args.reply.now } in
    let p = err_from_is_err_and c.from_residual.result c.from_residual.ensures.1 in
    rw (p.1, p.2) (λ isnt. is_rejected t n c.in_err-refuse_border.field-0.0 (some_told (Unit {0}) (rejected t.settings t.view t.shallow n.reply) c.in_err-refuse_border.field-0.0 c.in_err-refuse_border.ensures.told isnt))

pub returns-clause-received : goal.returns-clause-received
returns-clause-received g c =
    let t : FetchArgumentsValue = arguments_told (shown c.args.listed.now) c.args.arguments.now in
    let n : Negotiated = record { rounds = c.args.negotiate.rounds; reply = c.args.reply.now } in
    ok_by t n c.unpack.result (none_told (rejected t.settings t.view t.shallow n.reply) tt c.in_ok-refuse_border.ensures.told) c.unpack.ensures.received

pub returns-clause-refused : goal.returns-clause-refused
returns-clause-refused g c =
    let t : FetchArgumentsValue = arguments_told (shown c.args.listed.now) c.args.arguments.now in
    let n : Negotiated = record { rounds = c.args.negotiate.rounds; reply = c.args.reply.now } in
    err_by t n c.unpack.result (none_told (rejected t.settings t.view t.shallow n.reply) tt c.in_ok-refuse_border.ensures.told) c.unpack.ensures.refused
