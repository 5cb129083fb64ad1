-- What is refused once something was asked isn't what is refused before.
use Rattle.std.proofs.Common.{◌≡◌, ℕ, Bool, true, false, List, [], ◌++◌, Option, Some, None, Result, Ok, Err, refl, sym, ap, ◌∙◌, inl, inr}
use Rattle.fetch_base.specs.declared.id.ObjectId.{ObjectId}
use Rattle.fetch_replies.specs.Awaited.{told_at}
use Rattle.fetch_lines.specs.Talks.{Talk}
use Rattle.fetch_lines.specs.Written.{first_too_long, TellsTooLong}
use Rattle.fetch_lines.specs.declared.error.WireError.{WireError}
use Rattle.fetch_lines.specs.declared.error.WireError.TheVariants as wire
use Rattle.fetch_replies.specs.declared.replies.reply.ReplyKind.TheVariants as awaits
use Rattle.fetch_replies.specs.declared.replies.reply.ReplyError.{ReplyError}
use Rattle.fetch_replies.specs.declared.replies.reply.ReplyError.TheVariants as faults
use Rattle.fetch_replies.specs.declared.replies.reply.ParsedReply.{ParsedReply}
use Rattle.fetch_replies.specs.declared.replies.reply.ParsedReply.TheVariants as told
use Rattle.fetch_negotiate.specs.Requests.{fetch_request}
use Rattle.fetch_conversation.specs.Conversation.{asks, answer_in, after_reply, asks_unless, IsRefusedBy, Breaks}
use Rattle.fetch_conversation.specs.Errors.{is_free_receiving, is_stopped, is_unasked, fetch_of_wire}
use Rattle.fetch_conversation.specs.Exchange.{FetchArgumentsValue, asked_by, reply_to, failed, too_long, replied, exchange}
use Rattle.fetch_conversation.specs.declared.fetch.Error.{Error}
use Rattle.fetch_conversation.specs.declared.fetch.Error.TheVariants as errors

-- ---- the refusals of an exchange

fault_asked : (bound : ℕ) (fault : ReplyError) → is_unasked (failed bound fault) ≡ false
fault_asked bound (faults.Short place) = refl
fault_asked bound (faults.Broken place) = refl
fault_asked bound faults.TooLong = refl
fault_asked bound (faults.Said text) = refl

same_error : {X : Type 0} (a b : Error) → ◌≡◌ {A = Result X Error} (Err a) (Err b) → a ≡ b
same_error a b is = cc

by_error : {X : Type 0} (a b : Error) → is_unasked a ≡ false → ◌≡◌ {A = Result X Error} (Err a) (Err b) → is_unasked b ≡ false
by_error {X} a b asked is = ap is_unasked (sym (same_error {X = X} a b is)) ∙ asked

reply_asked : (bound : ℕ) (x : ParsedReply) (rest : List ℕ) (e : Error) → answer_in bound (replied x) rest ≡ Err e → is_unasked e ≡ false
unfolding answer_in
reply_asked bound (told.Reply reply) rest e is = absurd (cc)
reply_asked bound (told.Greeting h) rest e is = by_error (errors.Fetch (wire.Malformed 0)) e refl is
reply_asked bound (told.Advertisement h refs) rest e is = by_error (errors.Fetch (wire.Malformed 0)) e refl is
reply_asked bound (told.Listing refs) rest e is = by_error (errors.Fetch (wire.Malformed 0)) e refl is

reading_asked : (bound : ℕ) (e : Error) (found : Result (ParsedReply × List ℕ) ReplyError) → after_reply (λ fault. Err (failed bound fault)) (λ x rest. answer_in bound (replied x) rest) found ≡ Err e → is_unasked e ≡ false
reading_asked bound e (Ok x) is = reply_asked bound x.0 x.1 e is
reading_asked bound e (Err fault) is = by_error (failed bound fault) e (fault_asked bound fault) is

unless_asked : (bound : ℕ) (t : FetchArgumentsValue) (haves : List ObjectId) (done : Bool) (stream : List ℕ) (e : Error) (long : Option ℕ)
    → answer_in bound (asks_unless long too_long (asks (fetch_request (asked_by t) haves done) (awaits.Reply (reply_to t haves done)) (failed bound) (λ x. replied x))) stream ≡ Err e → is_unasked e ≡ false
unfolding answer_in
unless_asked bound t haves done stream e (Some n) is = by_error (too_long n) e refl is
unless_asked bound t haves done stream e None is = reading_asked bound e (told_at bound (awaits.Reply (reply_to t haves done)) stream) is

exchange_asked : (bound : ℕ) (t : FetchArgumentsValue) (haves : List ObjectId) (done : Bool) (stream : List ℕ) (e : Error) → answer_in bound (exchange bound t haves done) stream ≡ Err e → is_unasked e ≡ false
unfolding exchange
exchange_asked bound t haves done stream e is = unless_asked bound t haves done stream e (first_too_long (fetch_request (asked_by t) haves done)) is

-- ---- an exchange that breaks off

not_free : (e : Error) → is_unasked e ≡ true → is_free_receiving e ≡ false
not_free (errors.NoMapping specs count) is = refl
not_free (errors.IncompatibleObjectHash local remote) is = refl
not_free (errors.RejectShallowRemoteConfig value) is = refl
not_free (errors.NegotiationAlgorithmConfig value) is = refl
not_free (errors.PackThreads value) is = refl
not_free (errors.Fetch e) is = refl
not_free (errors.Disconnected link) is = refl
not_free errors.Client is = absurd (cc)
not_free errors.Interrupted is = absurd (cc)
not_free (errors.RejectShallowRemote id) is = refl
not_free (errors.Pack e) is = refl
not_free (errors.Collision id) is = refl
not_free (errors.KeepFile path) is = refl
not_free (errors.UpdateRefs e) is = refl
not_free (errors.RemovePackKeepFile path) is = refl
not_free errors.NoMemory is = absurd (cc)

refused_asked : (bound : ℕ) (now : Option Talk) (t : FetchArgumentsValue) (haves : List ObjectId) (done : Bool) (stream heard : List ℕ) (e : Error) → IsRefusedBy bound now (exchange bound t haves done) stream heard e → is_unasked e ≡ false
refused_asked bound now t haves done stream heard e (inl all) = exchange_asked bound t haves done (stream ++ []) e (all []).answer
refused_asked bound now t haves done stream heard e (inr last) = exchange_asked bound t haves done stream e last.1.answer

pub breaks_asked : (answers : Bool) (bound : ℕ) (old new : Option Talk) (pending : List ℕ) (t : FetchArgumentsValue) (haves : List ObjectId) (done : Bool) (e : Error) → Breaks is_free_receiving is_stopped answers bound old new pending (exchange bound t haves done) e → is_unasked e ≡ false
breaks_asked answers bound old new pending t haves done e h = by (is_unasked e) refl
  where
    by : (b : Bool) → is_unasked e ≡ b → b ≡ false
    by false is = refl
    by true is = sym is ∙ refused_asked bound new t haves done (pending ++ h.said) h.heard e (h.why (not_free e is))

pub long_asked : (long : Option ℕ) (e : WireError) → TellsTooLong long e → is_unasked (fetch_of_wire e) ≡ false
long_asked long wire.NoMemory h = refl
long_asked long (wire.LineTooLong n) h = refl
long_asked long (wire.Malformed place) h = absurd h
long_asked long (wire.ServerError text) h = absurd h
long_asked long (wire.ReplyTooLong bytes) h = absurd h
long_asked long (wire.MissingFeature name) h = absurd h
long_asked long (wire.BadParameter text place) h = absurd h
