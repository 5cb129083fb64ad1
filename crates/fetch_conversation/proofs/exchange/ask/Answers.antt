use Rattle.std.proofs.Common.{◌≡◌, Bool, true, false, not, List, Option, None, Result, Ok, Err, OnOk, IfErr, refl, sym, ap, ◌∙◌, subst}
use Rattle.std.specs.Prelude.{◌||◌}
use Rattle.fetch_base.specs.declared.id.ObjectId.{ObjectId}
use Rattle.fetch_lines.specs.RequestLines.{request_lines}
use Rattle.fetch_wire.specs.SessionStates.{SessionState, IsAlike, requested, turn_of, refusal_of, if_told, is_all_sent, kind_of}
use Rattle.fetch_lines.specs.Written.{first_too_long, TellsTooLong}
use Rattle.fetch_lines.specs.declared.error.WireError.{WireError}
use Rattle.fetch_lines.specs.declared.lines.line.Line.{Line}
use Rattle.fetch_lines.specs.declared.requests.records.Request.{Request}
use Rattle.fetch_wire.specs.declared.session.turn.Turn.TheVariants as turns
use Rattle.fetch_negotiate.specs.Requests.{Asked, text_lines, fetch_request}
use Rattle.fetch_conversation.specs.Conversing.{IsAsked, arguments_told}
use Rattle.fetch_conversation.specs.Exchange.{FetchArgumentsValue, asked_by, haves_told}
use Rattle.fetch_conversation.specs.ListStage.{shown}
use Rattle.fetch_conversation.proofs.Driven.{resting}
use Rattle.fetch_conversation.proofs.Requests.{request_is}
use Rattle.fetch_conversation.proofs.exchange.ask.Goals as goal

lines_by : (a : Asked) (haves : List ObjectId) (done : Bool) (r : Request) → r.lines ≡ text_lines a → r.haves ≡ haves → r.done ≡ done → request_lines r ≡ fetch_request a haves done
lines_by a haves done r lines same last =
    let by_lines : List (List _) → Request = λ l. record { lines = l; haves = r.haves; done = r.done } in
    let by_haves : List ObjectId → Request = λ h. record { lines = text_lines a; haves = h; done = r.done } in
    let by_done : Bool → Request = λ d. record { lines = text_lines a; haves = haves; done = d } in
    ap request_lines (ap by_lines lines ∙ ap by_haves same ∙ ap by_done last) ∙ request_is a haves done

ask_is : (t : FetchArgumentsValue) (haves : List ObjectId) (done : Bool) (before now : SessionState) (r : Request) (result : Result (Unit {0}) WireError) → kind_of before.handshake ≡ t.listed.handshake.object_hash → r.lines ≡ text_lines (asked_by t) → r.haves ≡ haves → r.done ≡ done
    → OnOk result (IsAlike now (requested before r (not t.dry_run))) → OnOk result (first_too_long (request_lines r) ≡ None) → OnOk result (IsAsked t haves done before now)
ask_is t haves done before now r (Ok x) kind lines same last is fits =
    let e : request_lines r ≡ fetch_request (asked_by t) haves done = lines_by (asked_by t) haves done r lines same last in
    record { request = r; lines = e; reply = rw (kind, same, last) refl; fits = ap first_too_long (sym e) ∙ fits; is = is }
ask_is t haves done before now r (Err e) kind lines same last is fits = tt

not_told : (told : Bool) (trouble : Option WireError) → trouble ≡ None → if_told told trouble ≡ None
not_told true trouble is = is
not_told false trouble is = refl

no_refusal : (s : SessionState) → turn_of s ≡ turns.Idle → refusal_of s ≡ None
no_refusal s idle = not_told (s.refused || is_all_sent s) s.trouble (resting s idle).trouble

ask_long : (t : FetchArgumentsValue) (haves : List ObjectId) (done : Bool) (before : SessionState) (r : Request) (result : Result (Unit {0}) WireError) → turn_of before ≡ turns.Idle → r.lines ≡ text_lines (asked_by t) → r.haves ≡ haves → r.done ≡ done
    → (refusal_of before ≡ None → IfErr result (λ e. TellsTooLong (first_too_long (request_lines r)) e)) → IfErr result (λ e. TellsTooLong (first_too_long (fetch_request (asked_by t) haves done)) e)
ask_long t haves done before r result idle lines same last long = subst (λ (l : List Line). IfErr result (λ e. TellsTooLong (first_too_long l) e)) (lines_by (asked_by t) haves done r lines same last) (long (no_refusal before idle))

pub returns-clause-asked : goal.returns-clause-asked
returns-clause-asked c =
    let t : FetchArgumentsValue = arguments_told (shown c.args.listed.now) c.args.arguments.now in
    let lines = rw (c.agent.ensures, c.as_slice.ensures) at c.in_ok-request.ensures.lines in
    let haves = rw c.as_slice-2.ensures at c.in_ok-request.ensures.haves in
    ask_is t (haves_told c.args.shared.now c.args.round.now.haves) c.args.round.now.done c.args.listed.now.session c.request.new.self c.in_ok-request.request c.request.result c.requires.kind lines haves c.in_ok-request.ensures.done c.request.ensures.requested c.request.ensures.fits

pub returns-clause-too_long : goal.returns-clause-too_long
returns-clause-too_long c =
    let t : FetchArgumentsValue = arguments_told (shown c.args.listed.now) c.args.arguments.now in
    let lines = rw (c.agent.ensures, c.as_slice.ensures) at c.in_ok-request.ensures.lines in
    let haves = rw c.as_slice-2.ensures at c.in_ok-request.ensures.haves in
    ask_long t (haves_told c.args.shared.now c.args.round.now.haves) c.args.round.now.done c.args.listed.now.session c.in_ok-request.request c.request.result c.requires.turn lines haves c.in_ok-request.ensures.done c.request.ensures.too_long
